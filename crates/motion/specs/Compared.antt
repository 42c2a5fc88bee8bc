-- Two iterators of numbers, compared.
use Rattle.std.specs.Prelude.{◌≡◌, refl, ℕ, ◌<◌, Bool, true, false, Option, Some, None, List, [], ◌∷◌, map, length, get_or, eqb}
use Rattle.std.specs.Iterator.{ComparesItemsByEq}
use Rattle.std.specs.List.{AllZip}
use Rattle.std.specs.Option.{MatchOption, IfSome}
use Rattle.std.proofs.Common.{ap, ap₂, sym, ◌∙◌, arith, eqb→eq}
use Rattle.std.proofs.lemmas.Iterator.{YieldsList}
use Rattle.std.proofs.lemmas.Iterator.Consumers.{YieldsList-turn, YieldsList-end}
use Rattle.std.proofs.lemmas.List.{get_or_default}
use Rattle.std.proofs.lemmas.Slice.Zip.{AllZip-long}
use Rattle.spec.specs.Outcome.{same_list}
use Rattle.theory.specs.Basics.Tests.{true_of, of_true, false_of, of_false, eq→eqb, same→eq, eq→same}

-- `eq` of two iterators of numbers is the test of their lists
pub same_from_eq : {S U T A : Type 0} {steps : S → Option A → S → Type 0} {others : T → Option A → T → Type 0} {v : A → ℕ} {s : S} {eq : A → A → Bool} {xs ys : List ℕ}
    (becomes : U → T → Type 0) (other : U) (r : Bool) → ComparesItemsByEq steps becomes others s other eq r → YieldsList steps v s xs
    → ((it : T) → becomes other it → YieldsList others v it ys) → ((x y : A) → eq x y ≡ eqb (v x) (v y)) → r ≡ same_list xs ys
same_from_eq {S} {U} {T} {A} {steps} {others} {v} {s} {eq} {xs} {ys} becomes other r (it, us, ws, o, p, u, w, b, (t, yx, so), (t2, yy, sp), z, l) ex ey e =
    ends o p so sp l
  where
    alike : (us ws : List A) → AllZip (λ x y. eq x y ≡ true) us ws → map v us ≡ map v ws
    alike [] [] z = refl
    alike [] (y ∷ ws) z = absurd z
    alike (x ∷ us) [] z = absurd z
    alike (x ∷ us) (y ∷ ws) z = ap₂ (λ (a : ℕ) (l : List ℕ). a ∷ l) (eqb→eq (v x) (v y) (of_true (sym (e x y) ∙ z.0))) (alike us ws z.1)

    m : map v us ≡ map v ws
    m = alike us ws z

    n : length us ≡ length ws
    n = sym (AllZip-long _ us ws z)

    differ : (xs ≡ ys → ⊥) → false ≡ same_list xs ys
    differ f = sym (false_of (λ t. f (same→eq xs ys t)))

    ends : (o p : Option A) → steps t o u → others t2 p w
        → MatchOption o (MatchOption p (r ≡ true) (λ _. r ≡ false)) (λ x. (r ≡ false) × IfSome p (λ y. eq x y ≡ false)) → r ≡ same_list xs ys
    ends None None so sp l =
        let a = YieldsList-end ex us t yx None u refl so in
        let d = YieldsList-end (ey it b) ws t2 yy None w refl sp in
        l ∙ sym (true_of (eq→same xs ys (sym a.0 ∙ m ∙ d.0)))
    ends None (Some y) so sp l =
        let a = YieldsList-end ex us t yx None u refl so in
        let d = YieldsList-turn (ey it b) ws t2 yy (Some y) w y refl sp in
        l ∙ differ (λ q. omega (arith, ap length q, a.1, d.0, n))
    ends (Some x) None so sp l =
        let a = YieldsList-turn ex us t yx (Some x) u x refl so in
        let d = YieldsList-end (ey it b) ws t2 yy None w refl sp in
        l.0 ∙ differ (λ q. omega (arith, ap length q, a.0, d.1, n))
    ends (Some x) (Some y) so sp l =
        let a = YieldsList-turn ex us t yx (Some x) u x refl so in
        let d = YieldsList-turn (ey it b) ws t2 yy (Some y) w y refl sp in
        l.0 ∙ differ (λ q.
        let k : length us < length ys = omega (arith, ap length q, a.0) in
        let g : v x ≡ v y =
        a.1 ∙ ap₂ (λ (i : List ℕ) (j : ℕ). get_or i j (v x)) q n ∙ get_or_default ys (length ws) (v x) (v y) d.0 ∙ sym d.1 in
        of_false (sym (e x y) ∙ l.1) (eq→eqb (v x) (v y) g))
