-- Places: every refusal's place fits two bytes.
use Rattle.std.specs.Prelude.{◌≡◌, Bool, true, false, List, [], ◌∷◌, ◌++◌, ℕ, zero, suc, ◌+◌, ◌*◌, ◌/◌, ◌%◌, ◌≤◌, ◌<◌, length, get_or, drop, T, eqb, ltb, leb}
use Rattle.std.proofs.Math.Path.{refl}
use Rattle.std.proofs.Common.{sym, arith, length-append, leb→le}
use Rattle.spec.specs.Outcome.{Outcome, ok, refuse, ◌>>=◌, ◌>>◌, check}
use Rattle.spec.specs.Wire.{word, payload_from, payload_of}
use Rattle.spec.specs.Layout.{Map, Zone, Edge, Head, Read, Counts, byte_at, word_at, read_vertices, read_head, read_zones, read_edges, kinds_from, counts_of, zones_of, edges_of, map_of, Placing, read_robots, placing_of}
use Rattle.spec.specs.State.{State}
use Rattle.spec.specs.Run.{count_of, moves_from, on_goals, checked_moves, step_at, steps_from, goals_from, resolved_moves}
use Rattle.spec.specs.Terms.{Bytes}
use Rattle.theory.specs.Basics.Tests.{and_left, and_right}
use Rattle.theory.specs.Basics.Outcomes.{ok_injective, never, passed, bound}

-- a refusal's place is below b
abbrev pub Small : {A : Type 0} → ℕ → Outcome A → Type 0
Small b (ok a) = Unit {0}
Small b (refuse n p) = p < b

-- ---- chains of checks

module _ {A B : Type 0} (b : ℕ) where
  -- a chain refuses as its first step or as the rest
  pub small_bind : (o : Outcome A) (f : A → Outcome B) → Small b o → ((a : A) → o ≡ ok a → Small b (f a)) → Small b (o >>= f)
  unfolding ◌>>=◌
  small_bind (ok a) f h k = k a refl
  small_bind (refuse n p) f h k = h

  -- the same where the value is not used
  pub small_seq : (o : Outcome A) (g : Outcome B) → Small b o → Small b g → Small b (o >> g)
  unfolding ◌>>◌
  small_seq (ok a) g h k = k
  small_seq (refuse n p) g h k = h

-- a check, then the rest, which may use what the check says
small_test : {A : Type 0} (b : ℕ) (t : Bool) (n p : ℕ) (g : Outcome A) → p < b → (T t → Small b g) → Small b (check t n p >> g)
unfolding check ◌>>◌
small_test b true n p g h k = k tt
small_test b false n p g h k = h

-- ---- bytes and files

-- a byte past the end is refused at its offset
small_byte : (b n : ℕ) (p : List ℕ) (o : ℕ) → o < b → Small b (byte_at n p o)
unfolding byte_at
small_byte b n p o h = go (ltb o (length p))
  where
    go : (t : Bool) → Small {A = ℕ} b (elim t [ true ↦ ok (get_or p o 0) | false ↦ refuse n o ])
    go true = tt
    go false = h

-- a byte that is read is the one at its offset
byte_is : (n : ℕ) (p : List ℕ) (o x : ℕ) → byte_at n p o ≡ ok x → x ≡ get_or p o 0
unfolding byte_at
byte_is n p o x e = go (ltb o (length p)) e
  where
    go : (t : Bool) → ◌≡◌ {A = Outcome ℕ} (elim t [ true ↦ ok (get_or p o 0) | false ↦ refuse n o ]) (ok x) → x ≡ get_or p o 0
    go true e = sym (ok_injective e)
    go false e = absurd (never e)

-- a two-byte number past the end is refused at its offset
small_word : (b n : ℕ) (p : List ℕ) (o : ℕ) → o < b → Small b (word_at n p o)
unfolding word_at
small_word b n p o h = go (ltb (o + 1) (length p))
  where
    go : (t : Bool) → Small {A = ℕ} b (elim t [ true ↦ ok (word p o) | false ↦ refuse n o ])
    go true = tt
    go false = h

-- a count is refused at place 0
small_count : (b n : ℕ) (p : List ℕ) → 0 < b → Small b (count_of n p)
unfolding count_of
small_count b n p h = go (word_at n p 0)
  where
    go : (o : Outcome ℕ) → Small {A = ℕ} b (elim o [ ok c ↦ ok c | refuse n q ↦ refuse n 0 ])
    go (ok c) = tt
    go (refuse n q) = h

-- a count is below 65,536, as two bytes are
pub count_small : (n : ℕ) (p : List ℕ) (c : ℕ) → Bytes p → count_of n p ≡ ok c → c < 65536
unfolding count_of word_at word
count_small n p c h e = go (ltb (0 + 1) (length p)) e
  where
    go : (t : Bool) → ◌≡◌ {A = Outcome ℕ} (elim (elim t as (λ _. Outcome ℕ) [ true ↦ ok (get_or p 0 0 * 256 + get_or p (0 + 1) 0) | false ↦ refuse n 0 ]) as (λ _. Outcome ℕ) [ ok c ↦ ok c | refuse n q ↦ refuse n 0 ]) (ok c) → c < 65536
    go true e = omega (arith, ok_injective e, h 0, h (0 + 1))
    go false e = absurd (never e)

-- blocks from i on: the place is one of them
small_blocks : (b base kind i n : ℕ) (f done : List ℕ) → i + n ≤ b → Small b (payload_from base kind i n f done)
unfolding payload_from
small_blocks b base kind i zero f done h = tt
small_blocks b base kind i (suc n) f done h =
    small_test b _ _ _ _ (omega arith) (λ t. small_test b _ _ _ _ (omega arith) (λ t. small_test b _ _ _ _ (omega arith) (λ t. small_blocks b base kind (i + 1) n _ _ (omega arith))))

-- a file: the place is a block
pub small_payload : (b base kind limit : ℕ) (f : List ℕ) → 0 < b → limit ≤ b → Small b (payload_of base kind limit f)
unfolding payload_of
small_payload b base kind limit f h l =
    small_test b _ _ _ _ h (λ t. small_blocks b base kind 0 (length f / 512) f []
    (omega (arith, leb→le (length f / 512) limit (and_right (leb 1 (length f / 512)) _ (and_right (eqb (length f % 512) 0) _ t)))))

-- ---- move lists

-- moves from i on: the place is one of them
small_moves : (b : ℕ) (m : Map) (k : ℕ) (p : List ℕ) (todo i : ℕ) (s : State) → i + todo ≤ b → Small b (moves_from m k p todo i s)
unfolding moves_from
small_moves b m k p zero i s h = tt
small_moves b m k p (suc todo) i s h =
    small_test b _ _ _ _ (omega arith) (λ t. small_test b _ _ _ _ (omega arith) (λ t. small_test b _ _ _ _ (omega arith) (λ t. small_test b _ _ _ _ (omega arith)
    (λ t. small_bind b _ _ (small_moves b m k p todo (i + 1) _ (omega arith)) (λ xs e. tt)))))

-- robots from r on that are off their goals: the place is one of them
small_on : (b r : ℕ) (vs gs : List ℕ) → r + length gs ≤ b → Small b (on_goals r vs gs)
unfolding on_goals
small_on b r vs [] h = tt
small_on b r vs (g ∷ gs) h = small_test b _ _ _ _ (omega arith) (λ t. small_on b (r + 1) vs gs (omega arith))

-- a move list: the place is a move, or a robot
pub small_checked : (m : Map) (pl : Placing) (p : List ℕ) → Bytes p → length pl.goals ≤ 65536 → Small 65536 (checked_moves m pl p)
unfolding checked_moves
small_checked m pl p h l = small_bind 65536 _ _ (small_count 65536 45 p (omega arith)) (λ c e.
    small_bind 65536 _ _ (small_moves 65536 m _ p c 0 _ (omega (arith, count_small 45 p c h e)))
    (λ ms f. small_test 65536 _ _ _ _ (count_small 45 p c h e) (λ t. small_seq 65536 _ _ (small_on 65536 0 _ pl.goals (omega arith)) tt)))

-- ---- plans

-- a step is refused at its own number
small_step : (b : ℕ) (m : Map) (k : ℕ) (p : List ℕ) (i o : ℕ) (s : State) → i < b → Small b (step_at m k p i o s)
unfolding step_at
small_step b m k p i o s h =
    small_test b _ _ _ _ h (λ t. small_test b _ _ _ _ h (λ t. small_test b _ _ _ _ h (λ t. small_test b _ _ _ _ h (λ t. small_test b _ _ _ _ h (λ t. small_test b _ _ _ _ h (λ t. small_test b _ _ _ _ h (λ t. tt)))))))

-- steps from i on: the place is one of them
small_steps : (b : ℕ) (m : Map) (k : ℕ) (p : List ℕ) (todo i o : ℕ) (s : State) → i + todo ≤ b → Small b (steps_from m k p todo i o s)
unfolding steps_from
small_steps b m k p zero i o s h = tt
small_steps b m k p (suc todo) i o s h =
    small_bind b _ _ (small_step b m k p i o s (omega arith)) (λ one e. small_bind b _ _ (small_steps b m k p todo (i + 1) one.next one.state (omega arith)) (λ rest f. tt))

-- zones from i on whose goals are out of reach: the place is one of them
small_goals : (b i : ℕ) (zs : List Zone) (s g : State) → i + length zs ≤ b → Small b (goals_from i zs s g)
unfolding goals_from
small_goals b i [] s g h = tt
small_goals b i (z ∷ zs) s g h = small_test b _ _ _ _ (omega arith) (λ t. small_goals b (i + 1) zs s g (omega arith))

-- a plan: the place is a step, or a zone
pub small_resolved : (m : Map) (pl : Placing) (p : List ℕ) → Bytes p → length m.zones ≤ 65536 → Small 65536 (resolved_moves m pl p)
unfolding resolved_moves
small_resolved m pl p h l = small_bind 65536 _ _ (small_count 65536 35 p (omega arith)) (λ c e.
    small_bind 65536 _ _ (small_steps 65536 m _ p c 0 2 _ (omega (arith, count_small 35 p c h e)))
    (λ ran f. small_test 65536 _ _ _ _ (count_small 35 p c h e) (λ t. small_seq 65536 _ _ (small_goals 65536 0 m.zones _ _ (omega arith)) tt)))

-- ---- maps and placings

-- the vertices of a zone: the place is the offset of one
small_vertices : (b n : ℕ) (p : List ℕ) (todo o : ℕ) (seen : List ℕ) → o + todo ≤ b → Small b (read_vertices n p todo o seen)
unfolding read_vertices
small_vertices b n p zero o seen h = tt
small_vertices b n p (suc todo) o seen h =
    small_bind b _ _ (small_byte b 15 p o (omega arith)) (λ v e. small_test b _ _ _ _ (omega arith) (λ t. small_vertices b n p todo (o + 1) (seen ++ (v ∷ [])) (omega arith)))

-- a zone's kind and size: the place is the offset of one of the two
small_head : (b : ℕ) (p : List ℕ) (o : ℕ) → o + 1 < b → Small b (read_head p o)
unfolding read_head
small_head b p o h =
    small_bind b _ _ (small_byte b 15 p o (omega arith)) (λ k e. small_test b _ _ _ _ (omega arith)
    (λ t. small_bind b _ _ (small_byte b 15 p (o + 1) h) (λ s f. small_test b _ _ _ _ h (λ u. tt))))

-- a size is a byte
head_size : (p : List ℕ) (o : ℕ) (x : Head) → Bytes p → read_head p o ≡ ok x → x.size < 256
unfolding read_head
head_size p o x h e =
    let k = bound _ _ _ e in
    let a = passed _ _ _ _ _ k.2 in
    let s = bound _ _ _ a.1 in
    let c = passed _ _ _ _ _ s.2 in
    let q : s.0 < 256 = rw (byte_is 15 p (o + 1) s.0 s.1) (h (o + 1)) in
    rw (← ok_injective c.1) q

-- a zone takes at most 257 bytes
small_zones : (b n : ℕ) (p : List ℕ) (todo o : ℕ) (zs : List Zone) (seen : List ℕ) → Bytes p → o + todo * 257 ≤ b → Small b (read_zones n p todo o zs seen)
unfolding read_zones
small_zones b n p zero o zs seen h l = tt
small_zones b n p (suc todo) o zs seen h l =
    small_bind b _ _ (small_head b p o (omega arith)) (λ x e.
    small_bind b _ _ (small_vertices b n p x.size (o + 2) seen (omega (arith, head_size p o x h e)))
    (λ more f. small_zones b n p todo (o + 2 + x.size) (zs ++ (record { kind = x.kind; vertices = drop (length seen) more } ∷ [])) more h (omega (arith, head_size p o x h e))))

-- as many zones are read as were asked for, and the offset after them is near
pub record ZonesSmall (todo o : ℕ) (zs : List Zone) (r : Read (List Zone)) : Type 0 where
  pub many : length r.it ≡ length zs + todo
  pub near : r.next ≤ o + todo * 257

-- zones that are read are so
zones_small : (n : ℕ) (p : List ℕ) (todo o : ℕ) (zs : List Zone) (seen : List ℕ) (r : Read (List Zone)) → Bytes p → read_zones n p todo o zs seen ≡ ok r → ZonesSmall todo o zs r
unfolding read_zones
zones_small n p zero o zs seen r h e = rw (← ok_injective e) (record { many = omega arith; near = omega arith })
zones_small n p (suc todo) o zs seen r h e =
    let x = bound _ _ _ e in
    let more = bound _ _ _ x.2 in
    let z : List Zone = zs ++ (record { kind = x.0.kind; vertices = drop (length seen) more.0 } ∷ []) in
    let w = zones_small n p todo (o + 2 + x.0.size) z more.0 r h more.2 in
    let l : length z ≡ length zs + 1 = length-append zs _ in
    record { many = omega (arith, w.many); near = omega (arith, w.near, head_size p o x.0 h x.1) }

-- edges: the place is the offset of one
small_edges : (b n : ℕ) (p : List ℕ) (todo o least : ℕ) (es : List Edge) → o + todo * 2 ≤ b → Small b (read_edges n p todo o least es)
unfolding read_edges
small_edges b n p zero o least es h = tt
small_edges b n p (suc todo) o least es h =
    small_bind b _ _ (small_byte b 15 p o (omega arith)) (λ x e. small_bind b _ _ (small_byte b 15 p (o + 1) (omega arith))
    (λ y f. small_test b _ _ _ _ (omega arith) (λ t. small_edges b n p todo (o + 2) (x * 256 + y + 1) (es ++ (record { a = x; b = y } ∷ [])) (omega arith))))

-- zones from i on that are not of their kind: the place is one of them
small_kinds : (b : ℕ) (m : Map) (i : ℕ) (zs : List Zone) → i + length zs ≤ b → Small b (kinds_from m i zs)
unfolding kinds_from
small_kinds b m i [] h = tt
small_kinds b m i (z ∷ zs) h = small_test b _ _ _ _ (omega arith) (λ t. small_kinds b m (i + 1) zs (omega arith))

-- the two counts of a map: the place is the offset of one
small_counts : (p : List ℕ) → Small 65536 (counts_of p)
unfolding counts_of
small_counts p = small_bind 65536 _ _ (small_byte 65536 15 p 0 (omega arith)) (λ n e. small_test 65536 _ _ _ _ (omega arith)
    (λ t. small_bind 65536 _ _ (small_byte 65536 15 p 1 (omega arith)) (λ z f. small_test 65536 _ _ _ _ (omega arith) (λ u. tt))))

-- a map has at most 64 zones
few_zones : (p : List ℕ) (c : Counts) → counts_of p ≡ ok c → c.zones ≤ 64
unfolding counts_of
few_zones p c e =
    let n = bound _ _ _ e in
    let a = passed _ _ _ _ _ n.2 in
    let z = bound _ _ _ a.1 in
    let d = passed _ _ _ _ _ z.2 in
    rw (← ok_injective d.1) (leb→le z.0 64 (and_right (leb 1 z.0) _ d.0))

-- the zones of a payload, once they are read
zones_few : (p : List ℕ) (c : Counts) (r : Read (List Zone)) → Bytes p → c.zones ≤ 64 → zones_of p c ≡ ok r → (length r.it ≤ 64) × (r.next ≤ 16450)
unfolding zones_of
zones_few p c r h l e =
    let z = bound _ _ _ e in
    let t = passed _ _ _ _ _ z.2 in
    let w = zones_small c.vertices p c.zones 2 [] [] z.0 h z.1 in
    rw (← ok_injective t.1) (omega (arith, w.many), omega (arith, w.near))

-- a map: the place is an offset, or a zone
pub small_map : (p : List ℕ) → Bytes p → Small 65536 (map_of p)
unfolding map_of zones_of edges_of
small_map p h = small_bind 65536 _ _ (small_counts p) (λ c ec.
    let l = few_zones p c ec in
    small_bind 65536 _ _ (small_bind 65536 _ _ (small_zones 65536 c.vertices p c.zones 2 [] [] h (omega arith)) (λ zs ez. small_test 65536 _ _ _ _ (omega (arith, (zones_small c.vertices p c.zones 2 [] [] zs h ez).near)) (λ t. tt)))
    (λ zs ez.
    let w = zones_few p c zs h l ez in
    small_bind 65536 _ _ (small_bind 65536 _ _ (small_word 65536 15 p zs.next (omega (arith, w.1))) (λ e ee. small_test 65536 _ _ _ _ (omega (arith, w.1))
    (λ t. let d = leb→le e 2048 t in small_bind 65536 _ _ (small_edges 65536 c.vertices p e (zs.next + 2) 0 [] (omega (arith, w.1))) (λ es f. small_test 65536 _ _ _ _ (omega (arith, w.1)) (λ u. tt)))))
    (λ es ee. small_seq 65536 _ _ (small_kinds 65536 (record { size = c.vertices; zones = zs.it; edges = es }) 0 zs.it (omega (arith, w.0))) tt)))

-- starts and goals: the place is the offset of one
small_robots : (b n : ℕ) (p : List ℕ) (todo o : ℕ) (ss gs : List ℕ) → o + todo * 2 ≤ b → Small b (read_robots n p todo o ss gs)
unfolding read_robots
small_robots b n p zero o ss gs h = tt
small_robots b n p (suc todo) o ss gs h =
    small_bind b _ _ (small_byte b 25 p o (omega arith)) (λ s e. small_test b _ _ _ _ (omega arith) (λ t. small_bind b _ _ (small_byte b 25 p (o + 1) (omega arith))
    (λ g f. small_test b _ _ _ _ (omega arith) (λ u. small_robots b n p todo (o + 2) (ss ++ (s ∷ [])) (gs ++ (g ∷ [])) (omega arith)))))

-- a placing: the place is an offset
pub small_placing : (m : Map) (p : List ℕ) → Small 65536 (placing_of m p)
unfolding placing_of
small_placing m p = small_bind 65536 _ _ (small_byte 65536 25 p 0 (omega arith)) (λ k e. small_test 65536 _ _ _ _ (omega arith) (λ t.
    let l = leb→le k 64 (and_left (leb k 64) _ t) in
    small_bind 65536 _ _ (small_robots 65536 m.size p k 1 [] [] (omega arith)) (λ pl f. small_test 65536 _ _ _ _ (omega arith) (λ u. tt))))
