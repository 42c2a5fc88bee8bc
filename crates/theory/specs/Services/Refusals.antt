-- Refusals: every one has a number of document 01's table.
use Rattle.std.specs.Prelude.{Bool, true, false, List, [], ◌∷◌, ◌++◌, length, get_or, drop, ltb}
use Prim.Native.Nat.{ℕ, zero, suc, ◌+◌, ◌*◌, ◌/◌}
use Rattle.std.proofs.Math.ListN.{take}
use Rattle.spec.specs.Outcome.{Outcome, ok, refuse, ◌>>=◌, ◌>>◌, check, member}
use Rattle.spec.specs.Wire.{word, payload_from, payload_of}
use Rattle.spec.specs.Layout.{Map, Zone, Edge, byte_at, word_at, read_vertices, read_head, read_zones, read_edges, kinds_from, counts_of, zones_of, edges_of, map_of, Placing, read_robots, placing_of}
use Rattle.spec.specs.State.{State}
use Rattle.spec.specs.Run.{count_of, step_at, steps_from, goals_from, resolved_moves, moves_from, on_goals, checked_moves}
use Rattle.spec.specs.Services.{instance_of, fits, plan_moves}
use Rattle.spec.specs.Terms.{map_numbers, plan_numbers, list_numbers, answer_numbers}
use Rattle.theory.specs.Basics.Lists.{In, in_left, in_right}

-- a refusal has one of the numbers ns
abbrev pub Numbered : {A : Type 0} → List ℕ → Outcome A → Type 0
Numbered ns (ok a) = Unit {0}
Numbered ns (refuse n p) = In n ns

-- ---- chains of checks

-- a check refuses with its own number
numbered_check : (ns : List ℕ) (b : Bool) (n p : ℕ) → In n ns → Numbered ns (check b n p)
unfolding check
numbered_check ns true n p h = tt
numbered_check ns false n p h = h

module _ {A B : Type 0} (ns : List ℕ) where
  -- a chain refuses as its first step or as the rest
  pub numbered_bind : (o : Outcome A) (f : A → Outcome B) → Numbered ns o → ((a : A) → Numbered ns (f a)) → Numbered ns (o >>= f)
  unfolding ◌>>=◌
  numbered_bind (ok a) f h k = k a
  numbered_bind (refuse n p) f h k = h

  -- the same where the value is not used
  pub numbered_seq : (o : Outcome A) (g : Outcome B) → Numbered ns o → Numbered ns g → Numbered ns (o >> g)
  unfolding ◌>>◌
  numbered_seq (ok a) g h k = k
  numbered_seq (refuse n p) g h k = h

module _ {A : Type 0} where
  -- a check, then the rest
  pub numbered_test : (ns : List ℕ) (b : Bool) (n p : ℕ) (g : Outcome A) → In n ns → Numbered ns g → Numbered ns (check b n p >> g)
  numbered_test ns b n p g h k = numbered_seq ns (check b n p) g (numbered_check ns b n p h) k

  -- more numbers allow as much
  pub numbered_left : (ns ms : List ℕ) (o : Outcome A) → Numbered ns o → Numbered (ns ++ ms) o
  numbered_left ns ms (ok a) h = tt
  numbered_left ns ms (refuse n p) h = in_left n ns ms h

  -- also where they come first
  pub numbered_right : (ns ms : List ℕ) (o : Outcome A) → Numbered ms o → Numbered (ns ++ ms) o
  numbered_right ns ms (ok a) h = tt
  numbered_right ns ms (refuse n p) h = in_right n ns ms h

-- ---- bytes and files

-- a byte that is not there
numbered_byte : (ns : List ℕ) (n : ℕ) (p : List ℕ) (o : ℕ) → In n ns → Numbered ns (byte_at n p o)
unfolding byte_at
numbered_byte ns n p o h = go (ltb o (length p))
  where
    go : (b : Bool) → Numbered {A = ℕ} ns (elim b [ true ↦ ok (get_or p o 0) | false ↦ refuse n o ])
    go true = tt
    go false = h

-- a word that is not there
numbered_word : (ns : List ℕ) (n : ℕ) (p : List ℕ) (o : ℕ) → In n ns → Numbered ns (word_at n p o)
unfolding word_at
numbered_word ns n p o h = go (ltb (o + 1) (length p))
  where
    go : (b : Bool) → Numbered {A = ℕ} ns (elim b [ true ↦ ok (word p o) | false ↦ refuse n o ])
    go true = tt
    go false = h

-- a count that is not there
numbered_count : (ns : List ℕ) (n : ℕ) (p : List ℕ) → In n ns → Numbered ns (count_of n p)
unfolding count_of
numbered_count ns n p h = go (word_at n p 0) (numbered_word ns n p 0 h)
  where
    go : (o : Outcome ℕ) → Numbered ns o → Numbered {A = ℕ} ns (elim o [ ok c ↦ ok c | refuse n q ↦ refuse n 0 ])
    go (ok c) h = tt
    go (refuse n q) h = h

module _ (ns : List ℕ) (base kind : ℕ) (two : In (base + 2) ns) (three : In (base + 3) ns) (four : In (base + 4) ns) where
  -- a block
  numbered_blocks : (i n : ℕ) (f done : List ℕ) → Numbered ns (payload_from base kind i n f done)
  unfolding payload_from
  numbered_blocks i zero f done = tt
  numbered_blocks i (suc n) f done =
      numbered_test ns _ _ _ _ two (numbered_test ns _ _ _ _ three (numbered_test ns _ _ _ _ four
      (numbered_blocks (i + 1) n (drop 512 f) (done ++ take (word (take 512 f) 4) (drop 6 (take 512 f))))))

  -- a file
  numbered_payload : (limit : ℕ) (f : List ℕ) → In (base + 1) ns → Numbered ns (payload_of base kind limit f)
  unfolding payload_of
  numbered_payload limit f one = numbered_test ns _ _ _ _ one (numbered_blocks 0 (length f / 512) f [])

-- ---- maps and placings: 11 to 28

-- a byte of the map or the placing
abbrev byte : (n : ℕ) (p : List ℕ) (o : ℕ) → In n map_numbers → Numbered map_numbers (byte_at n p o)
byte = numbered_byte map_numbers

-- a field out of its range
test : {A : Type 0} (b : Bool) (n p : ℕ) (g : Outcome A) → In n map_numbers → Numbered map_numbers g → Numbered map_numbers (check b n p >> g)
test = numbered_test map_numbers

-- a field, then the rest
then_read : {A B : Type 0} (o : Outcome A) (f : A → Outcome B) → Numbered map_numbers o → ((a : A) → Numbered map_numbers (f a)) → Numbered map_numbers (o >>= f)
then_read = numbered_bind map_numbers

-- the vertices of a zone
numbered_vertices : (n : ℕ) (p : List ℕ) (todo o : ℕ) (seen : List ℕ) → Numbered map_numbers (read_vertices n p todo o seen)
unfolding read_vertices member
numbered_vertices n p zero o seen = tt
numbered_vertices n p (suc todo) o seen = then_read _ _ (byte 15 p o tt) (λ v. test _ _ _ _ tt (numbered_vertices n p todo (o + 1) (seen ++ (v ∷ []))))

-- its kind and size
numbered_head : (p : List ℕ) (o : ℕ) → Numbered map_numbers (read_head p o)
unfolding read_head member
numbered_head p o = then_read _ _ (byte 15 p o tt) (λ k. test _ _ _ _ tt (then_read _ _ (byte 15 p (o + 1) tt) (λ s. test _ _ _ _ tt tt)))

-- the zones
numbered_zones : (n : ℕ) (p : List ℕ) (todo o : ℕ) (zs : List Zone) (seen : List ℕ) → Numbered map_numbers (read_zones n p todo o zs seen)
unfolding read_zones
numbered_zones n p zero o zs seen = tt
numbered_zones n p (suc todo) o zs seen =
    then_read _ _ (numbered_head p o) (λ h. then_read _ _ (numbered_vertices n p h.size (o + 2) seen)
    (λ more. numbered_zones n p todo (o + 2 + h.size) (zs ++ (record { kind = h.kind; vertices = drop (length seen) more } ∷ [])) more))

-- the edges
numbered_edges : (n : ℕ) (p : List ℕ) (todo o least : ℕ) (es : List Edge) → Numbered map_numbers (read_edges n p todo o least es)
unfolding read_edges member
numbered_edges n p zero o least es = tt
numbered_edges n p (suc todo) o least es = then_read _ _ (byte 15 p o tt) (λ a. then_read _ _ (byte 15 p (o + 1) tt)
    (λ b. test _ _ _ _ tt (numbered_edges n p todo (o + 2) (a * 256 + b + 1) (es ++ (record { a = a; b = b } ∷ [])))))

-- the kinds of the zones
numbered_kinds : (m : Map) (i : ℕ) (zs : List Zone) → Numbered map_numbers (kinds_from m i zs)
unfolding kinds_from member
numbered_kinds m i [] = tt
numbered_kinds m i (z ∷ zs) = test _ _ _ _ tt (numbered_kinds m (i + 1) zs)

-- the counts of a map
numbered_counts : (p : List ℕ) → Numbered map_numbers (counts_of p)
unfolding counts_of member
numbered_counts p = then_read _ _ (byte 15 p 0 tt) (λ n. test _ _ _ _ tt (then_read _ _ (byte 15 p 1 tt) (λ z. test _ _ _ _ tt tt)))

-- a map
numbered_map : (p : List ℕ) → Numbered map_numbers (map_of p)
unfolding map_of zones_of edges_of member
numbered_map p =
    then_read _ _ (numbered_counts p)
    (λ c. then_read _ _ (then_read _ _ (numbered_zones c.vertices p c.zones 2 [] []) (λ zs. test _ _ _ _ tt tt))
    (λ zs. then_read _ _ (then_read _ _ (numbered_word map_numbers 15 p zs.next tt) (λ e. test _ _ _ _ tt (then_read _ _ (numbered_edges c.vertices p e (zs.next + 2) 0 []) (λ es. test _ _ _ _ tt tt))))
    (λ es. numbered_seq map_numbers _ _ (numbered_kinds (record { size = c.vertices; zones = zs.it; edges = es }) 0 zs.it) tt)))

-- the robots of a placing
numbered_robots : (n : ℕ) (p : List ℕ) (todo o : ℕ) (ss gs : List ℕ) → Numbered map_numbers (read_robots n p todo o ss gs)
unfolding read_robots member
numbered_robots n p zero o ss gs = tt
numbered_robots n p (suc todo) o ss gs = then_read _ _ (byte 25 p o tt) (λ s. test _ _ _ _ tt (then_read _ _ (byte 25 p (o + 1) tt)
    (λ g. test _ _ _ _ tt (numbered_robots n p todo (o + 2) (ss ++ (s ∷ [])) (gs ++ (g ∷ []))))))

-- a placing
numbered_placing : (m : Map) (p : List ℕ) → Numbered map_numbers (placing_of m p)
unfolding placing_of member
numbered_placing m p = then_read _ _ (byte 25 p 0 tt) (λ k. test _ _ _ _ tt (then_read _ _ (numbered_robots m.size p k 1 [] []) (λ pl. test _ _ _ _ tt tt)))

-- map and placing
pub numbered_instance : (a b : List ℕ) → Numbered map_numbers (instance_of a b)
unfolding instance_of member
numbered_instance a b =
    then_read _ _ (numbered_payload map_numbers 10 1 tt tt tt 9 a tt)
    (λ mp. then_read _ _ (numbered_map mp) (λ m. then_read _ _ (numbered_payload map_numbers 20 2 tt tt tt 1 b tt) (λ pp. then_read _ _ (numbered_placing m pp) (λ pl. tt))))

-- ---- plans: 31 to 39 and 50

-- a step
numbered_step : (m : Map) (k : ℕ) (p : List ℕ) (i o : ℕ) (s : State) → Numbered plan_numbers (step_at m k p i o s)
unfolding step_at member
numbered_step m k p i o s =
    numbered_test plan_numbers _ _ _ _ tt (numbered_test plan_numbers _ _ _ _ tt (numbered_test plan_numbers _ _ _ _ tt (numbered_test plan_numbers _ _ _ _ tt
    (numbered_test plan_numbers _ _ _ _ tt (numbered_test plan_numbers _ _ _ _ tt (numbered_test plan_numbers _ _ _ _ tt tt))))))

-- the steps
numbered_steps : (m : Map) (k : ℕ) (p : List ℕ) (todo i o : ℕ) (s : State) → Numbered plan_numbers (steps_from m k p todo i o s)
unfolding steps_from
numbered_steps m k p zero i o s = tt
numbered_steps m k p (suc todo) i o s = numbered_bind plan_numbers _ _ (numbered_step m k p i o s) (λ one. numbered_bind plan_numbers _ _ (numbered_steps m k p todo (i + 1) one.next one.state) (λ r. tt))

-- the goals
numbered_goals : (i : ℕ) (zs : List Zone) (s g : State) → Numbered plan_numbers (goals_from i zs s g)
unfolding goals_from member
numbered_goals i [] s g = tt
numbered_goals i (z ∷ zs) s g = numbered_test plan_numbers _ _ _ _ tt (numbered_goals (i + 1) zs s g)

-- the resolving of a payload
numbered_resolved : (m : Map) (pl : Placing) (p : List ℕ) → Numbered plan_numbers (resolved_moves m pl p)
unfolding resolved_moves member
numbered_resolved m pl p = numbered_bind plan_numbers _ _ (numbered_count plan_numbers 35 p tt) (λ c. numbered_bind plan_numbers _ _ (numbered_steps m _ p c 0 2 _)
    (λ r. numbered_test plan_numbers _ _ _ _ tt (numbered_seq plan_numbers _ _ (numbered_goals 0 m.zones r.state _) tt)))

-- and of a plan
pub numbered_plan : (a b c : List ℕ) → Numbered plan_numbers (plan_moves a b c)
unfolding plan_moves member
numbered_plan a b c = numbered_bind plan_numbers _ _ (numbered_left map_numbers (31 ∷ 32 ∷ 33 ∷ 34 ∷ 35 ∷ 36 ∷ 37 ∷ 38 ∷ 39 ∷ 50 ∷ []) (instance_of a b) (numbered_instance a b))
    (λ it. numbered_bind plan_numbers _ _ (numbered_payload plan_numbers 30 3 tt tt tt 64 c tt) (λ p. numbered_resolved it.graph it.placing p))

-- ---- move lists: 41 to 48 and 51

-- the moves
numbered_moves : (m : Map) (k : ℕ) (p : List ℕ) (todo i : ℕ) (s : State) → Numbered list_numbers (moves_from m k p todo i s)
unfolding moves_from member
numbered_moves m k p zero i s = tt
numbered_moves m k p (suc todo) i s =
    numbered_test list_numbers _ _ _ _ tt (numbered_test list_numbers _ _ _ _ tt (numbered_test list_numbers _ _ _ _ tt (numbered_test list_numbers _ _ _ _ tt
    (numbered_bind list_numbers _ _ (numbered_moves m k p todo (i + 1) _) (λ xs. tt)))))

-- the goals
numbered_on : (r : ℕ) (vs gs : List ℕ) → Numbered list_numbers (on_goals r vs gs)
unfolding on_goals member
numbered_on r vs [] = tt
numbered_on r vs (g ∷ gs) = numbered_test list_numbers _ _ _ _ tt (numbered_on (r + 1) vs gs)

-- a payload
pub numbered_checked : (m : Map) (pl : Placing) (p : List ℕ) → Numbered list_numbers (checked_moves m pl p)
unfolding checked_moves member
numbered_checked m pl p = numbered_bind list_numbers _ _ (numbered_count list_numbers 45 p tt) (λ c. numbered_bind list_numbers _ _ (numbered_moves m _ p c 0 _)
    (λ ms. numbered_test list_numbers _ _ _ _ tt (numbered_seq list_numbers _ _ (numbered_on 0 _ pl.goals) tt)))

-- a file
pub numbered_list : (c : List ℕ) → Numbered list_numbers (payload_of 40 4 128 c)
unfolding member
numbered_list c = numbered_payload list_numbers 40 4 tt tt tt 128 c tt

-- ---- answers: 61 and 60

-- an answer that does not fit
pub numbered_fits : (kind limit room : ℕ) (p : List ℕ) → Numbered answer_numbers (fits kind limit room p)
unfolding fits member
numbered_fits kind limit room p = numbered_test answer_numbers _ _ _ _ tt (numbered_test answer_numbers _ _ _ _ tt tt)
