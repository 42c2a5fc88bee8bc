-- The follow list of a step: how long it is, what stands in it, and that the written bytes are the step.
use Rattle.std.specs.Prelude.{◌≡◌, ℕ, zero, suc, ◌+◌, ◌≤◌, ◌<◌, Bool, List, [], ◌∷◌, length, get_or, set, drop}
use Rattle.std.proofs.Math.Path.{refl, ap}
use Rattle.std.proofs.Common.{sym, ◌∙◌, not-suc-le-zero, add-one, arith, drop_of_length-le, drop-cons, get_or-set_same, get_or-set_other}
use Rattle.std.proofs.Math.Bool.{true, false}
use Rattle.std.proofs.Math.ListN.{length-set}
use Rattle.std.proofs.Math.Dec.{eqb}
use borrow.Author.Tests.{eqb-true, eqb-false}
use Rattle.spec.specs.Arrangement.{Arrangement}
use Rattle.spec.specs.State.{State, robot_on, cell_of, arrangement_of, robots_of}
use Rattle.wire.specs.Payload.{place_of}
use Rattle.writer.specs.Laid.{laid, laid_all}
use Rattle.motion.specs.Across.{arrangement_length, arrangement_at}
use Rattle.noting.specs.Follow.{followed, seated, robot_in, Following, step_from}

robots_length : (a : Arrangement) → length (robots_of a) ≡ length a
unfolding robots_of
robots_length [] = refl
robots_length (zero ∷ a) = ap suc (robots_length a)
robots_length (suc r ∷ a) = ap suc (robots_length a)

robot_in_lem : (x : ℕ) → robot_in (cell_of x) ≡ x
unfolding cell_of
robot_in_lem x = go (eqb x 255) refl
  where
    go : (b : Bool) → eqb x 255 ≡ b → robot_in (elim b [ true ↦ 0 | false ↦ suc x ]) ≡ x
    go true e = sym (eqb-true x 255 e)
    go false e = refl

robots_at : (a : Arrangement) (i : ℕ) → i < length a → get_or (robots_of a) i 0 ≡ robot_in (get_or a i 0)
unfolding robots_of
robots_at [] i h = absurd (not-suc-le-zero h)
robots_at (zero ∷ a) zero h = refl
robots_at (suc r ∷ a) zero h = refl
robots_at (zero ∷ a) (suc i) h = robots_at a i (omega arith)
robots_at (suc r ∷ a) (suc i) h = robots_at a i (omega arith)

module _ (s : State) (vs : List ℕ) (j r : ℕ) where
  -- one number a place
  pub follow_length : length (followed s vs j r) ≡ length vs
  unfolding followed
  follow_length = robots_length (set (arrangement_of s vs) j (suc r)) ∙ length-set (arrangement_of s vs) j (suc r) ∙ arrangement_length s vs

  at : (i : ℕ) → i < length vs → get_or (followed s vs j r) i 0 ≡ robot_in (get_or (set (arrangement_of s vs) j (suc r)) i 0)
  unfolding followed
  at i h = robots_at (set (arrangement_of s vs) j (suc r)) i (omega (arith, length-set (arrangement_of s vs) j (suc r), arrangement_length s vs))

  -- its number at a place
  follow_at : (i : ℕ) → i < length vs → get_or (followed s vs j r) i 0 ≡ seated s (get_or vs i 0) i j r
  unfolding seated
  follow_at i h = at i h ∙ go (eqb i j) refl
    where
      go : (b : Bool) → eqb i j ≡ b → robot_in (get_or (set (arrangement_of s vs) j (suc r)) i 0) ≡ elim b [ true ↦ r | false ↦ robot_on s (get_or vs i 0) ]
      go true e =
          let d : i ≡ j = eqb-true i j e in
          ap (λ (k : ℕ). robot_in (get_or (set (arrangement_of s vs) j (suc r)) k 0)) d
          ∙ ap robot_in (get_or-set_same (arrangement_of s vs) j (suc r) 0 (omega (arith, arrangement_length s vs)))
      go false e = ap robot_in (get_or-set_other (arrangement_of s vs) j i (suc r) 0 (eqb-false i j e) ∙ arrangement_at s vs i h) ∙ robot_in_lem (robot_on s (get_or vs i 0))

  module _ (off : ℕ) (o₀ : List ℕ) where
    pub following_start : Following s vs j r off o₀ 0 o₀
    following_start = record { within = omega arith; long = refl; rest = let e : off + 0 ≡ off = omega arith in rw e }

    -- the next number is laid
    pub following_next : (i x : ℕ) (o o' : List ℕ) → Following s vs j r off o₀ i o → i < length vs → x ≡ seated s (get_or vs i 0) i j r → o' ≡ laid o (off + i) x → Following s vs j r off o₀ (i + 1) o'
    following_next i x o o' f h ex eo =
        let l = follow_length in
        let e : off + (i + 1) ≡ off + i + 1 = omega arith in
        let d : drop i (followed s vs j r) ≡ get_or (followed s vs j r) i 0 ∷ drop (i + 1) (followed s vs j r) = rw (add-one i) (drop-cons (followed s vs j r) i 0 (omega arith)) in
        record {
          within = omega arith;
          long = ap length eo ∙ length-set o (place_of (off + i)) x ∙ f.long;
          rest = rw (e, eo, ex, ← follow_at i h) (rw d at f.rest);
        }

    -- the whole list is laid
    pub following_end : (i : ℕ) (o : List ℕ) → Following s vs j r off o₀ i o → length vs ≤ i → o ≡ laid_all o₀ off (followed s vs j r)
    following_end i o f h = rw (drop_of_length-le (followed s vs j r) {i = i} (omega (arith, follow_length))) at f.rest

-- ---- a step

module _ (s : State) (vs : List ℕ) (j r u v behind off : ℕ) (o o₃ o₄ : List ℕ) (e₃ : o₃ ≡ laid_all o off (r ∷ u ∷ v ∷ [])) (e₄ : o₄ ≡ laid o₃ (off + 3) behind) where
  -- the four bytes, and what follows them
  four_laid : (rest : List ℕ) → laid_all o₄ (off + 4) rest ≡ laid_all o off (r ∷ u ∷ v ∷ behind ∷ rest)
  four_laid rest =
      let a : off + 1 + 1 ≡ off + 2 = omega arith in
      let b : off + 2 + 1 ≡ off + 3 = omega arith in
      let d : off + 3 + 1 ≡ off + 4 = omega arith in
      rw (e₄, e₃, a, b, d)

  -- a step of four bytes
  pub step_short : (filled : Bool) → filled ≡ false
      → (off + 4 ≡ off + length (step_from s vs j r u v behind filled)) × (o₄ ≡ laid_all o off (step_from s vs j r u v behind filled))
  unfolding step_from
  step_short filled e = rw e (refl, four_laid [])

  -- and one with a list
  pub step_long : (filled : Bool) → filled ≡ true → (o' : List ℕ) → o' ≡ laid_all o₄ (off + 4) (followed s vs j r)
      → (off + 4 + length vs ≡ off + length (step_from s vs j r u v behind filled)) × (o' ≡ laid_all o off (step_from s vs j r u v behind filled))
  unfolding step_from
  step_long filled e o' h = rw e (omega (arith, follow_length s vs j r), h ∙ four_laid (followed s vs j r))
