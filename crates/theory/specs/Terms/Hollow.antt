-- The hollow controllers of document 01: each is defined, and shown not to meet the term that shuts it out.
use Rattle.std.proofs.Math.Path.{◌≡◌, refl, sym, ap}
use Rattle.std.proofs.Common.{◌∙◌}
use Rattle.std.specs.Prelude.{true, false, ℕ, ◌+◌, ◌≤◌, length, take, eqb, ltb}
use mathlib.Core.List.{List, [], ◌∷◌, ◌++◌}
use native.Mathlib.Omega.{arith}
use Rattle.std.proofs.Math.ListN.{get_or}
use Rattle.std.proofs.Math.Dec.{lit<}
use Rattle.spec.specs.Outcome.{ok, refuse, ◌>>=◌, ◌>>◌, check, ◌and◌, ◌or◌, u16}
use Rattle.spec.specs.Wire.{file_of}
use Rattle.spec.specs.Layout.{Map, zone_of}
use Rattle.spec.specs.Arrangement.{Move, mv}
use Rattle.spec.specs.State.{standing, moved_all, legal_all, move_bytes, moves_payload}
use Rattle.spec.specs.Services.{Answer, instance_of, fits, answer_of, plan_moves, judging, resolving}
use Rattle.spec.specs.Terms.{Judging, Writing, writes, move_file, Reaches, Refuses, Resolves, RoundTrip}
use Rattle.theory.specs.Basics.Outcomes.{ok_injective}
use Rattle.theory.specs.Services.Answers.{refusal}
use Rattle.theory.specs.Terms.Yards.{map_b, placing_b, plan_b, bytes_b, step_b, bytes_step, it_b}

-- ---- "turns down every plan": demand 3, second half

-- no plan is cleared
abbrev pub turns_down : Judging
turns_down a b c = refusal 0 50 0

-- ---- "clears all with an empty list": demand 3, goals

-- every plan is answered with an empty list
abbrev pub empty_list : Writing
empty_list a b c room = writes room (move_file [])

-- ---- "returns 0 and writes nothing": demand 2

-- plans are refused as they should be, and the others answered with 0 and no bytes
unfoldable pub writes_nothing : Writing
writes_nothing a b c room = elim (plan_moves a b c) [ ok ms ↦ writes room [] | refuse n place ↦ refusal room n place ]

-- in Yard B two plans are cleared, and can't both be drawn from no bytes, whatever draws
pub writes_nothing_out : (draw : Writing) → RoundTrip writes_nothing draw → ⊥
unfolding RoundTrip
writes_nothing_out draw t =
    let one = t map_b placing_b step_b 512 512 bytes_step (ap (λ (x : Answer). x.number) first) (unfold step_b file_of in lit< tt) in
    let two = t map_b placing_b plan_b 512 512 bytes_b (ap (λ (x : Answer). x.number) second) (unfold plan_b file_of in lit< tt) in
    let same : writes 512 step_b ≡ writes 512 plan_b = sym one ∙ ap (λ (x : Answer). draw map_b placing_b (take x.value x.buffer) 512) (first ∙ sym second) ∙ two in
    off (ap (λ (x : Answer). get_or x.buffer 7 0) same)
  where
    first : writes_nothing map_b placing_b step_b 512 ≡ writes 512 []
    first = unfold writes_nothing map_b placing_b step_b file_of plan_moves ◌>>=◌ ◌>>◌ check ◌and◌ ◌or◌ in refl

    second : writes_nothing map_b placing_b plan_b 512 ≡ writes 512 []
    second = unfold writes_nothing map_b placing_b plan_b file_of plan_moves ◌>>=◌ ◌>>◌ check ◌and◌ ◌or◌ in refl

    off : get_or (writes 512 step_b).buffer 7 0 ≡ get_or (writes 512 plan_b).buffer 7 0 → ⊥
    off e = let z : ◌≡◌ {A = ℕ} 1 3 = unfold step_b plan_b file_of in e in omega arith

-- ---- "works out step one, skips later crossings": demand 3, crossings

-- the moves inside zones
unfoldable pub inside : Map → List Move → List Move
inside m [] = []
inside m (x ∷ xs) = elim (eqb (zone_of m x.from) (zone_of m x.to)) [ true ↦ x ∷ inside m xs | false ↦ inside m xs ]

-- the moves up to the first crossing, and those inside zones after it
unfoldable pub step_one : Map → List Move → List Move
step_one m [] = []
step_one m (x ∷ xs) = elim (eqb (zone_of m x.from) (zone_of m x.to)) [ true ↦ x ∷ step_one m xs | false ↦ x ∷ inside m xs ]

-- the defined list without its later crossings
unfoldable pub skips_later : Writing
skips_later a b c room = answer_of room (instance_of a b >>= λ it. plan_moves a b c >>= λ ms. fits 4 128 room (moves_payload (step_one it.graph ms)))

-- in Yard B that is a legal list to the goal
pub skips_later_reaches : Reaches it_b (mv 0 0 1 ∷ [])
unfolding it_b standing moved_all legal_all ◌and◌
skips_later_reaches = (tt, refl)

-- ---- "writes an invented move count": demand 2

-- the list with a count one too great
unfoldable pub invented : Writing
invented a b c room = answer_of room (plan_moves a b c >>= λ ms. fits 4 128 room (u16 (length ms + 1) ++ move_bytes ms))

-- its payload for Yard B: four moves are announced and three are there
unfoldable pub invented_b : List ℕ
invented_b = 0 ∷ 4 ∷ 0 ∷ 0 ∷ 1 ∷ 0 ∷ 1 ∷ 0 ∷ 0 ∷ 0 ∷ 1 ∷ []

-- ---- "says 60 or 61 before working anything out": demand 1, by the table

-- every plan is answered with n
abbrev pub early : ℕ → Writing
early n a b c room = refusal room n 0

-- a short buffer is 60 whatever the files are
unfoldable pub short_first : Writing
short_first a b c room = elim (ltb room 512) [ true ↦ refusal room 60 0 | false ↦ resolving a b c room ]

-- files of length 0 are 11: whoever says 60 or 61 of them is out
pub said_early : (resolve : Writing) → 60 ≤ (resolve [] [] [] 0).number → Refuses judging resolve → ⊥
unfolding Refuses
said_early resolve h t =
    let e = (t [] [] [] 0 (λ z. let y : ◌≡◌ {A = ℕ} 11 0 = sym eleven ∙ z in omega arith)).0 in
    let z : (resolve [] [] [] 0).number ≡ 11 = e ∙ eleven in
    omega arith
  where
    eleven : (judging [] [] []).number ≡ 11
    eleven = unfold judging ◌>>=◌ ◌>>◌ check ◌and◌ in refl

-- so is this one
pub early_out : (n : ℕ) → 60 ≤ n → Refuses judging (early n) → ⊥
early_out n h = said_early (early n) h

-- and this one
pub short_first_out : Refuses judging short_first → ⊥
short_first_out = said_early short_first (unfold short_first in lit< tt)

-- nor does Yard B's list need more than the 512 bytes that are there
pub early_short : (n : ℕ) → 60 ≤ n → Resolves judging (early n) → ⊥
unfolding Resolves
early_short n h t =
    let w = t map_b placing_b plan_b 512 cleared_b in
    let e : three ≡ w.0 = ok_injective (sym resolved_b ∙ w.1) in
    let size : length (move_file w.0) ≤ 512 = rw e at small in
    let z : n ≡ 0 = w.2.whole.1 (omega arith, size) in
    omega arith
  where
    three : List Move
    three = mv 0 0 1 ∷ mv 0 1 0 ∷ mv 0 0 1 ∷ []

    small : length (move_file three) ≤ 512
    small = unfold file_of moves_payload in lit< tt

    cleared_b : (judging map_b placing_b plan_b).number ≡ 0
    cleared_b = unfold judging map_b placing_b plan_b file_of ◌>>=◌ ◌>>◌ check ◌and◌ ◌or◌ in refl

    resolved_b : plan_moves map_b placing_b plan_b ≡ ok three
    resolved_b = unfold plan_moves map_b placing_b plan_b file_of ◌>>=◌ ◌>>◌ check ◌and◌ ◌or◌ in refl
