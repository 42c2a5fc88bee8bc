-- Bytes and parts of a payload that stands in a file.
use Rattle.std.specs.Prelude.{◌≡◌, Bool, true, false, List, ℕ, ◌+◌, ◌*◌, ◌/◌, ◌<◌, ◌≤◌, length, get_or, take, drop, eqb}
use Rattle.std.proofs.Common.{sym, ◌∙◌, arith, length-drop, length-take-le, get_or-take, get_or-drop, ext_get_or}
use Rattle.spec.specs.Outcome.{◌and◌}
use Rattle.spec.specs.Arrangement.{last_free}
use Rattle.spec.specs.State.{State, arrangement_of}
use Rattle.theory.specs.Zones.Crossing.{extra_of}
use Rattle.motion.specs.Across.{arrangement_length}
use Rattle.wire.specs.Payload.{payload, place_of, Copied, held_length, held_byte}

-- a byte of the payload that the code read in the file
pub byte_is : (f : List ℕ) (len o x : ℕ) → len ≤ length f / 512 * 504 → o < len → x ≡ get_or f (place_of o) 0 → x ≡ get_or (take len (payload f)) o 0
byte_is f len o x most h e = e ∙ sym (held_byte f len most o h)

-- n bytes from offset `from` on, of a payload of len bytes
abbrev pub held_part : List ℕ → ℕ → ℕ → ℕ → List ℕ
held_part f len from n = take n (drop from (take len (payload f)))

-- all bytes
pub copied_all : (f : List ℕ) (len from : ℕ) (list : List ℕ) (n i : ℕ) → len ≤ length f / 512 * 504 → from + n ≤ len → length list ≡ n → n ≤ i → Copied f from list i
    → list ≡ held_part f len from n
copied_all f len from list n i most h e l c =
    let d : length (held_part f len from n) ≡ n = length-take-le n (drop from (take len (payload f))) (omega (arith, length-drop from (take len (payload f)), held_length f len most)) in
    ext_get_or 0 list (held_part f len from n) (e ∙ sym d)
    (λ j b. c j (omega arith)
    ∙ sym (get_or-take n (drop from (take len (payload f))) j 0 (omega arith) ∙ get_or-drop from (take len (payload f)) j 0 ∙ held_byte f len most (from + j) (omega arith)))

-- the part does not depend on what follows it
pub held_same : (f : List ℕ) (len from n : ℕ) → len ≤ length f / 512 * 504 → from + n ≤ len → held_part f (from + n) from n ≡ held_part f len from n
held_same f len from n most h =
    let l : from + n ≤ length f / 512 * 504 = omega arith in
    let d : length (held_part f (from + n) from n) ≡ n = length-take-le n (drop from (take (from + n) (payload f))) (omega (arith, length-drop from (take (from + n) (payload f)), held_length f (from + n) l)) in
    copied_all f len from (held_part f (from + n) from n) n n most h d (omega arith)
    (λ j b. get_or-take n (drop from (take (from + n) (payload f))) j 0 b ∙ get_or-drop from (take (from + n) (payload f)) j 0 ∙ held_byte f (from + n) l (from + j) (omega arith))

-- ---- the length of a follow list

-- an arrangement is as long as its zone
extra_is : (s : State) (vs : List ℕ) (b : Bool) (n : ℕ) → n ≡ elim b [ true ↦ length vs | false ↦ 0 ] → n ≡ elim b [ true ↦ length (arrangement_of s vs) | false ↦ 0 ]
extra_is s vs true n e = e ∙ sym (arrangement_length s vs)
extra_is s vs false n e = e

-- the step fills a clique
pub extra_filled : (kind : ℕ) (s : State) (vs : List ℕ) → (eqb kind 3 and last_free (arrangement_of s vs)) ≡ true → length vs ≡ extra_of kind (arrangement_of s vs)
extra_filled kind s vs e = extra_is s vs (eqb kind 3 and last_free (arrangement_of s vs)) (length vs) (rw e)

-- it does not
pub extra_none : (kind : ℕ) (s : State) (vs : List ℕ) → (eqb kind 3 and last_free (arrangement_of s vs)) ≡ false → 0 ≡ extra_of kind (arrangement_of s vs)
extra_none kind s vs e = extra_is s vs (eqb kind 3 and last_free (arrangement_of s vs)) 0 (rw e)

-- it is no longer than the zone
pub extra_most : (kind : ℕ) (s : State) (vs : List ℕ) → extra_of kind (arrangement_of s vs) ≤ length vs
extra_most kind s vs = go (eqb kind 3 and last_free (arrangement_of s vs))
  where
    go : (b : Bool) → elim b [ true ↦ length (arrangement_of s vs) | false ↦ 0 ] ≤ length vs
    go true = omega (arith, arrangement_length s vs)
    go false = omega arith
