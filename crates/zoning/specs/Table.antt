-- The listing of the vertices while zones are read, with the zone and place of each vertex; and what one vertex more changes in a list.
use Rattle.std.specs.Prelude.{ℕ, zero, suc, ◌+◌, ◌<◌, ◌≡◌, refl, Bool, true, false, not, List, [], ◌∷◌, ◌++◌, length, get_or, take, drop, set, replicate, eqb}
use Rattle.std.proofs.Common.{ap, sym, ◌∙◌, eqb-true, eq-eqb, ne_eqb, arith}
use Rattle.std.proofs.lemmas.Bool.{eqb-false}
use Rattle.spec.specs.Outcome.{member, index_of}
use Rattle.theory.specs.Basics.Lists.{get_d_uniform, get_d_default}
use Rattle.zoning.specs.declared.reading.Listing.{Listing}

abbrev pub seen : Listing → List ℕ
seen t = take t.used t.listed

-- the k vertices listed after those of s
abbrev pub newly : Listing → Listing → ℕ → List ℕ
newly s t k = take k (drop s.used t.listed)

-- how many vertices have no zone yet
unfoldable pub free : List ℕ → ℕ
free [] = 0
free (x ∷ l) = elim (eqb x 255) [ true ↦ suc (free l) | false ↦ free l ]

abbrev pub pick : Bool → ℕ → ℕ → ℕ
pick true a b = a
pick false a b = b

-- the zone table says which vertices are listed, and as many have no zone as the listing has room for
pub record Rep (t : Listing) : Type 0 where
  pub marks : (v : ℕ) → member v (seen t) ≡ not (eqb (get_or t.zone v 255) 255)
  pub room : t.used + free t.zone ≡ 128
  pub long_listed : length t.listed ≡ 128
  pub long_zone : length t.zone ≡ 128
  pub long_place : length t.place ≡ 128

-- a zone's entry as code reads it
pub entry_same : (t : Listing) (v : ℕ) → Rep t → v < 128 → get_or t.zone v 0 ≡ 255 → get_or t.zone v 255 ≡ 255
entry_same t v r h e = get_d_default t.zone v 255 0 (omega (arith, r.long_zone)) ∙ e

-- the table of no vertices
abbrev pub no_table : Listing
no_table = record { used = 0; listed = replicate 128 0; zone = replicate 128 255; place = replicate 128 0 }

pub rep_none : Rep no_table
unfolding free member
rep_none = record {
  marks = λ v. sym (ap (λ (x : ℕ). not (eqb x 255)) (get_d_uniform 128 v 255));
  room = refl;
  long_listed = refl;
  long_zone = refl;
  long_place = refl;
}

-- ---- membership

pub member_here : (v : ℕ) (l : List ℕ) → member v (v ∷ l) ≡ true
unfolding member
member_here v l = simp (member, eq-eqb v v refl)

pub member_there : (w v : ℕ) (l : List ℕ) → (w ≡ v → ⊥) → member w (v ∷ l) ≡ member w l
unfolding member
member_there w v l h = simp (member, ne_eqb w v h)

swap : (a b c : Bool) → ◌≡◌ {A = Bool} (elim a [ true ↦ true | false ↦ elim b [ true ↦ true | false ↦ c ] ]) (elim b [ true ↦ true | false ↦ elim a [ true ↦ true | false ↦ c ] ])
swap true true c = refl
swap true false c = refl
swap false true c = refl
swap false false c = refl

-- the last of a list might as well be the first
pub member_snoc : (w v : ℕ) (l : List ℕ) → member w (l ++ (v ∷ [])) ≡ member w (v ∷ l)
unfolding member
member_snoc w v [] = refl
member_snoc w v (x ∷ l) = ap (λ (b : Bool). elim (eqb w x) [ true ↦ true | false ↦ b ]) (member_snoc w v l) ∙ swap (eqb w x) (eqb w v) (member w l)

pub snoc_here : (v : ℕ) (l : List ℕ) → member v (l ++ (v ∷ [])) ≡ true
snoc_here v l = member_snoc v v l ∙ member_here v l

pub snoc_there : (w v : ℕ) (l : List ℕ) → (w ≡ v → ⊥) → member w (l ++ (v ∷ [])) ≡ member w l
snoc_there w v l h = member_snoc w v l ∙ member_there w v l h

index_skip : (v x : ℕ) (l : List ℕ) → (v ≡ x → ⊥) → index_of v (x ∷ l) ≡ index_of v l + 1
unfolding index_of
index_skip v x l h = simp (index_of, ne_eqb v x h)

index_first : (v x : ℕ) (l : List ℕ) → v ≡ x → index_of v (x ∷ l) ≡ 0
unfolding index_of
index_first v x l h = simp (index_of, eq-eqb v x h)

-- a new vertex stands at the end
pub index_last : (v : ℕ) (l : List ℕ) → member v l ≡ false → index_of v (l ++ (v ∷ [])) ≡ length l
index_last v [] h = index_first v v [] refl
index_last v (x ∷ l) h = go (eqb v x) refl (index_last v l)
  where
    go : (b : Bool) → eqb v x ≡ b → (member v l ≡ false → index_of v (l ++ (v ∷ [])) ≡ length l) → index_of v ((x ∷ l) ++ (v ∷ [])) ≡ length (x ∷ l)
    go true e ih = let q = ap (λ (y : ℕ). member v (y ∷ l)) (sym (eqb-true v x e)) ∙ member_here v l in cc
    go false e ih =
        let d = eqb-false v x e in
        index_skip v x (l ++ (v ∷ [])) d ∙ ap (λ (k : ℕ). k + 1) (ih (sym (member_there v x l d) ∙ h)) ∙ omega arith

-- one that was there stays where it was
pub index_stays : (w v : ℕ) (l : List ℕ) → member w l ≡ true → index_of w (l ++ (v ∷ [])) ≡ index_of w l
unfolding member
index_stays w v [] h = cc
index_stays w v (x ∷ l) h = go (eqb w x) refl (index_stays w v l)
  where
    go : (b : Bool) → eqb w x ≡ b → (member w l ≡ true → index_of w (l ++ (v ∷ [])) ≡ index_of w l) → index_of w ((x ∷ l) ++ (v ∷ [])) ≡ index_of w (x ∷ l)
    go true e ih = let d = eqb-true w x e in index_first w x (l ++ (v ∷ [])) d ∙ sym (index_first w x l d)
    go false e ih =
        let d = eqb-false w x e in
        index_skip w x (l ++ (v ∷ [])) d ∙ ap (λ (k : ℕ). k + 1) (ih (sym (member_there w x l d) ∙ h)) ∙ sym (index_skip w x l d)

-- ---- room

free_one : (x : ℕ) (l : List ℕ) → eqb x 255 ≡ true → free (x ∷ l) ≡ suc (free l)
unfolding free
free_one x l e = simp (free, e)

free_no : (x : ℕ) (l : List ℕ) → eqb x 255 ≡ false → free (x ∷ l) ≡ free l
unfolding free
free_no x l e = simp (free, e)

-- a vertex that gets a zone takes room away
pub free_set : (l : List ℕ) (v z : ℕ) → v < length l → get_or l v 255 ≡ 255 → (z ≡ 255 → ⊥) → free l ≡ suc (free (set l v z))
unfolding free
free_set [] v z h e g = absurd (omega arith)
free_set (x ∷ l) zero z h e g = free_one x l (eq-eqb x 255 e) ∙ ap suc (sym (free_no z l (ne_eqb z 255 g)))
free_set (x ∷ l) (suc v) z h e g = go (eqb x 255) (free_set l v z (omega arith) e g)
  where
    go : (b : Bool) → free l ≡ suc (free (set l v z))
        → ◌≡◌ {A = ℕ} (elim b [ true ↦ suc (free l) | false ↦ free l ]) (suc (elim b [ true ↦ suc (free (set l v z)) | false ↦ free (set l v z) ]))
    go true q = ap suc q
    go false q = q
