-- A map, a placing and a move list that are read and checked, and what the services are then.
use Rattle.std.specs.Prelude.{◌≡◌, ◌⊎◌, List, length, take, Result, Ok, Err}
use Rattle.std.proofs.Math.Path.{refl}
use Rattle.std.proofs.Common.{sym, ap, ◌∙◌, ⊎_elim, arith, add-zero, length-take-le, ltb→lt, leb→le}
use Rattle.std.proofs.Math.Logic.{inl, inr}
use Prim.Native.Nat.{ℕ, zero, suc, ◌+◌, ◌*◌, ◌/◌, ◌≤◌, ◌<◌}
use Rattle.spec.specs.Outcome.{Outcome, ok, refuse, ◌>>=◌}
use Rattle.spec.specs.Wire.{payload_of}
use Rattle.spec.specs.Layout.{Map, Placing, map_of, placing_of}
use Rattle.spec.specs.Arrangement.{Move}
use Rattle.spec.specs.State.{State}
use Rattle.spec.specs.Run.{moves_from, checked_moves}
use Rattle.spec.specs.Services.{Instance, instance_of}
use Rattle.spec.specs.Terms.{Bytes}
use Rattle.theory.specs.Basics.Tests.{and_right}
use Rattle.theory.specs.Basics.Outcomes.{ok_injective, passed, bound, seq_ok, bind}
use Rattle.theory.specs.Codec.Written.{written_bytes}
use Rattle.theory.specs.Maps.Layout.{Accepted, map_accepted}
use Rattle.theory.specs.Maps.Placing.{Placed, placing_accepted}
use Rattle.theory.specs.Services.Places.{Small, small_payload, small_map, small_placing, small_checked, count_small}
use Rattle.adjacency.specs.Rows.{Shows}
use Rattle.zoning.specs.declared.MapFault.{MapFault}
use Rattle.zoning.specs.Bytes.{held, held_payload}
use Rattle.layout.specs.Map.{map_or, MapHeld, MapIs}
use Rattle.layout.specs.declared.MapTables.{MapTables}
use Rattle.placing.specs.declared.PlacingFault.{PlacingFault}
use Rattle.placing.specs.Placing.{placing_in, placing_or, PlacingHeld, PlacingIs}
use Rattle.placing.specs.declared.PlacingTables.{PlacingTables}
use Rattle.wire.specs.Payload.{payload, held_length, held_byte}
use Rattle.replay.specs.Moves.{move_by, moves_by, bytes_of, file_bytes, moves_same, moves_length}
use Rattle.replay.specs.Check.{move_list_of}
use Rattle.replay.specs.declared.ListFault.{ListFault}
use Rattle.drawing.specs.Drawn.{EndsOn}
use Rattle.refusals.specs.declared.Refusal.{Refusal}
use Rattle.refusals.specs.declared.Refusal.TheVariants as refusal
use Rattle.refusals.specs.Refusals.{place_of, refused, list_refused}
use Rattle.opening.specs.declared.filed.FiledMap.{FiledMap}
use Rattle.opening.specs.declared.Opened.{Opened}
use Rattle.opening.specs.declared.Yard.{Yard}

-- ---- outcomes

module _ {A B : Type 0} where
  -- a step that refuses is the chain's refusal
  pub refused_bind : (o : Outcome A) (f : A → Outcome B) (n p : ℕ) → o ≡ refuse n p → (o >>= f) ≡ refuse n p
  unfolding ◌>>=◌
  refused_bind o f n p e = rw e

  -- a chain that refuses did so at its first step or after it
  pub refused_where : (o : Outcome A) (f : A → Outcome B) (n p : ℕ) → (o >>= f) ≡ refuse n p → (o ≡ refuse n p) ⊎ ((x : A) × (o ≡ ok x) × (f x ≡ refuse n p))
  unfolding ◌>>=◌
  refused_where (ok x) f n p e = inr (x, refl, e)
  refused_where (refuse m q) f n p e = let x : m ≡ n = cc in let y : q ≡ p = cc in inl (rw (x, y))

-- ---- the chain of checks that drawing and rounds share

unfoldable pub chain : List ℕ → List ℕ → List ℕ → (Instance → List Move → Outcome (List ℕ)) → Outcome (List ℕ)
chain a b c K = do
  it ← instance_of a b
  p ← payload_of 40 4 128 c
  ms ← checked_moves it.graph it.placing p
  K it ms

module _ (a b c : List ℕ) (K : Instance → List Move → Outcome (List ℕ)) (n q : ℕ) where
  pub chain_instance : instance_of a b ≡ refuse n q → chain a b c K ≡ refuse n q
  unfolding chain
  chain_instance e = refused_bind _ _ n q e

  chain_file : (it : Instance) → instance_of a b ≡ ok it → payload_of 40 4 128 c ≡ refuse n q → chain a b c K ≡ refuse n q
  unfolding chain
  chain_file it e f = bind _ _ _ e ∙ refused_bind _ _ n q f

  chain_list : (it : Instance) (p : List ℕ) → instance_of a b ≡ ok it → payload_of 40 4 128 c ≡ ok p → checked_moves it.graph it.placing p ≡ refuse n q → chain a b c K ≡ refuse n q
  unfolding chain
  chain_list it p e f g = bind _ _ _ e ∙ bind _ _ _ f ∙ refused_bind _ _ n q g

pub chain_all : (a b c : List ℕ) (K : Instance → List Move → Outcome (List ℕ)) (it : Instance) (p : List ℕ) (ms : List Move) → instance_of a b ≡ ok it
    → payload_of 40 4 128 c ≡ ok p → checked_moves it.graph it.placing p ≡ ok ms → chain a b c K ≡ K it ms
unfolding chain
chain_all a b c K it p ms e f g = bind _ _ _ e ∙ bind _ _ _ f ∙ bind _ _ _ g

-- ---- map and placing

-- a refusal's place is small
pub small_at : {A : Type 0} (b n q : ℕ) (o : Outcome A) → Small b o → o ≡ refuse n q → q < b
small_at b n q o h e = rw e at h

small_bind' : {A B : Type 0} (b n q : ℕ) (o : Outcome A) (f : A → Outcome B) → Small b o → ((x : A) → o ≡ ok x → Small b (f x)) → (o >>= f) ≡ refuse n q → q < b
small_bind' b n q o f h k e = ⊎_elim (λ (w : o ≡ refuse n q). small_at b n q o h w) (λ w. small_at b n q (f w.0) (k w.0 w.1) w.2) (refused_where o f n q e)

-- a placing that is refused ends the chain
placing_first : (m : Map) (b : List ℕ) (n q : ℕ) → placing_in m b ≡ refuse n q
    → ◌>>=◌ {B = Instance} (payload_of 20 2 1 b) (λ y. placing_of m y >>= (λ pl. ok (record { graph = m; placing = pl }))) ≡ refuse n q
placing_first m b n q f = ⊎_elim
    (λ (h : payload_of 20 2 1 b ≡ refuse n q). refused_bind _ _ n q h)
    (λ h. bind _ _ _ h.1 ∙ refused_bind _ _ n q h.2)
    (refused_where (payload_of 20 2 1 b) (placing_of m) n q f)

-- ---- what is opened

-- a map, a placing and a list of n moves that is legal and reaches the goals
pub record ListRead (a b c : List ℕ) (map : MapTables 128) (placing : PlacingTables) (n : ℕ) : Type 0 where
  pub it : Instance
  pub instance : instance_of a b ≡ ok it
  pub p : List ℕ
  pub read : payload_of 40 4 128 c ≡ ok p
  pub checked : checked_moves it.graph it.placing p ≡ ok (moves_by (file_bytes c) 0 n)
  pub few : n < 65536
  pub held : MapHeld map it.graph
  pub accepted : Accepted it.graph
  pub robots : PlacingHeld placing it.placing
  pub ends : EndsOn it.graph (file_bytes c) n

-- the blocks of a map have passed, or one is refused
abbrev pub FiledIs : List ℕ → Result FiledMap Refusal → Type 0
FiledIs a (Ok f) = f.file.now ≡ a
FiledIs a (Err e) = payload_of 10 1 9 a ≡ refused e

-- a map and a placing that are accepted, as the code holds them
pub record YardRead (a b : List ℕ) (map : MapTables 128) (placing : PlacingTables) (rows : List (List ℕ)) : Type 0 where
  pub it : Instance
  pub instance : instance_of a b ≡ ok it
  pub held : MapHeld map it.graph
  pub accepted : Accepted it.graph
  pub robots : PlacingHeld placing it.placing
  pub placed : Placed it.graph.size it.placing
  pub shown : Shows rows it.graph.edges

-- a check refuses so, at a place that fits
pub record RefusedAs {A : Type 0} (o : Outcome A) (e : Refusal) : Type 0 where
  pub answer : o ≡ refused e
  pub small : place_of e < 65536

-- they are read, or refused
abbrev pub YardIs : (a b : List ℕ) (rows : List (List ℕ)) → Result Yard Refusal → Type 0
YardIs a b rows (Ok y) = YardRead a b y.map y.placing rows
YardIs a b rows (Err e) = RefusedAs (instance_of a b) e

-- it is opened, or refused as every service refuses it
abbrev pub OpenedIs : (a b c : List ℕ) → Result Opened Refusal → Type 0
OpenedIs a b c (Ok o) = ListRead a b c o.yard.map o.yard.placing o.count
OpenedIs a b c (Err e) = (K : Instance → List Move → Outcome (List ℕ)) → RefusedAs (chain a b c K) e

-- ---- the moves of a checked list

-- as many as the count says
moves_many : (m : Map) (k : ℕ) (p : List ℕ) (todo i : ℕ) (s : State) (xs : List Move) → moves_from m k p todo i s ≡ ok xs → length xs ≡ todo
unfolding moves_from
moves_many m k p zero i s xs e = ap length (sym (ok_injective e))
moves_many m k p (suc todo) i s xs e =
    let a = passed _ _ _ _ _ e in
    let b = passed _ _ _ _ _ a.1 in
    let c = passed _ _ _ _ _ b.1 in
    let d = passed _ _ _ _ _ c.1 in
    let r = bound _ _ _ d.1 in
    ap length (sym (ok_injective r.2)) ∙ ap suc (moves_many m k p todo (i + 1) _ r.0 r.1)

-- each within the payload, to a vertex of the map
moves_end : (m : Map) (k : ℕ) (p : List ℕ) (todo i : ℕ) (s : State) (xs : List Move) → moves_from m k p todo i s ≡ ok xs → (l : ℕ) → l < todo
    → (2 + (i + l) * 3 + 3 ≤ length p) × ((move_by (bytes_of p) (i + l)).to < m.size)
unfolding moves_from
moves_end m k p zero i s xs e l h = absurd (omega arith)
moves_end m k p (suc todo) i s xs e zero h =
    let a = passed _ _ _ _ _ e in
    let b = passed _ _ _ _ _ a.1 in
    let z : i + 0 ≡ i = add-zero i in
    rw z (leb→le _ _ a.0, ltb→lt _ _ (and_right _ _ (and_right _ _ b.0)))
moves_end m k p (suc todo) i s xs e (suc l) h =
    let a = passed _ _ _ _ _ e in
    let b = passed _ _ _ _ _ a.1 in
    let c = passed _ _ _ _ _ b.1 in
    let d = passed _ _ _ _ _ c.1 in
    let r = bound _ _ _ d.1 in
    let z : i + 1 + l ≡ i + suc l = omega arith in
    rw z at (moves_end m k p todo (i + 1) _ r.0 r.1 l (omega arith))

-- what a list that passed says of its moves
pub record Passed (m : Map) (p : List ℕ) (ms : List Move) : Type 0 where
  pub few : length ms < 65536
  pub ends : (l : ℕ) → l < length ms → (2 + l * 3 + 3 ≤ length p) × ((move_by (bytes_of p) l).to < m.size)

list_passed : (m : Map) (pl : Placing) (p : List ℕ) (ms : List Move) → Bytes p → checked_moves m pl p ≡ ok ms → Passed m p ms
unfolding checked_moves
list_passed m pl p ms h e =
    let c = bound _ _ _ e in
    let r = bound _ _ _ c.2 in
    let t = passed _ _ _ _ _ r.2 in
    let g = seq_ok _ _ _ t.1 in
    let q : r.0 ≡ ms = ok_injective g.2 in
    let n : length ms ≡ c.0 = ap length (sym q) ∙ moves_many m _ p c.0 0 _ r.0 r.1 in
    record {
      few = omega (arith, count_small 45 p c.0 h c.1);
      ends = λ l k. let z : 0 + l ≡ l = omega arith in rw z at (moves_end m _ p c.0 0 _ r.0 r.1 l (omega arith));
    }

-- ---- map and placing, stage by stage

module _ (a b : List ℕ) where
  -- the map's blocks are refused
  pub file_refused : (e : Refusal) → payload_of 10 1 9 a ≡ refused e → RefusedAs (instance_of a b) e
  unfolding instance_of
  file_refused e w = record {
    answer = refused_bind _ _ _ _ w;
    small = small_at 65536 _ _ (payload_of 10 1 9 a) (small_payload 65536 10 1 9 a (omega arith) (omega arith)) w;
  }

  -- they have passed, with a payload of len bytes
  module _ (len : ℕ) (read : payload_of 10 1 9 a ≡ ok (take len (payload a))) (most : len ≤ length a / 512 * 504) where
    filed_map : map_of (take len (payload a)) ≡ map_of (held a len)
    filed_map = ap map_of (held_payload a len most)

    -- the map is refused
    pub map_refused : (rows : List (List ℕ)) (e : MapFault) → Bytes a → MapIs (map_of (held a len)) (Err e) rows → RefusedAs (instance_of a b) (refusal.Map e)
    unfolding instance_of
    map_refused rows e ha r =
        let x : map_of (take len (payload a)) ≡ refused (refusal.Map e) = filed_map ∙ r.answer in
        record {
          answer = bind _ _ _ read ∙ refused_bind _ _ _ _ x;
          small = small_at 65536 _ _ (map_of (take len (payload a))) (small_map (take len (payload a)) (written_bytes 10 1 9 a (take len (payload a)) ha read)) x;
        }

    module _ (rows : List (List ℕ)) (t : MapTables 128) (r : MapIs (map_of (held a len)) (Ok t) rows) where
      m : Map
      m = map_or (map_of (held a len))

      map_read : map_of (take len (payload a)) ≡ ok m
      unfolding m
      map_read = filed_map ∙ r.answer

      -- the placing is refused
      pub placing_refused : (e : PlacingFault) → ((x : Map) → x.size ≡ t.vertices → PlacingIs (placing_in x b) (Err e)) → RefusedAs (instance_of a b) (refusal.Placing e)
      unfolding instance_of m
      placing_refused e p =
          let x : placing_in m b ≡ refused (refusal.Placing e) = (p m (sym r.tables.size)).answer in
          record {
            answer = bind _ _ _ read ∙ bind _ _ _ map_read ∙ placing_first m b _ _ x;
            small = small_bind' 65536 _ _ (payload_of 20 2 1 b) (placing_of m) (small_payload 65536 20 2 1 b (omega arith) (omega arith)) (λ y z. small_placing m y) x;
          }

      -- both are read
      pub yard_read : (p : PlacingTables) → ((x : Map) → x.size ≡ t.vertices → PlacingIs (placing_in x b) (Ok p)) → YardRead a b t p rows
      unfolding instance_of m
      yard_read p h =
          let there = h m (sym r.tables.size) in
          let pl : Placing = placing_or (placing_in m b) in
          let x = bound (payload_of 20 2 1 b) (placing_of m) pl there.answer in
          record {
            it = record { graph = m; placing = pl };
            instance = bind _ _ _ read ∙ bind _ _ _ map_read ∙ bind _ _ _ x.1 ∙ bind _ _ _ x.2;
            held = r.tables;
            accepted = map_accepted _ m map_read;
            robots = there.tables;
            placed = placing_accepted m x.0 pl x.2;
            shown = r.shown;
          }

-- ---- the move list, stage by stage

-- map or placing is refused
pub opened_yard : (a b c : List ℕ) (e : Refusal) → RefusedAs (instance_of a b) e → OpenedIs a b c (Err e)
opened_yard a b c e w = λ K. record { answer = chain_instance a b c K _ _ w.answer; small = w.small }

module _ (a b c : List ℕ) (t : MapTables 128) (pl : PlacingTables) (rows : List (List ℕ)) (d : YardRead a b t pl rows) where
  -- the move list's file is refused
  pub opened_file : (e : Refusal) → payload_of 40 4 128 c ≡ refused e → OpenedIs a b c (Err e)
  opened_file e w = λ K. record {
    answer = chain_file a b c K _ _ d.it d.instance w;
    small = small_at 65536 _ _ (payload_of 40 4 128 c) (small_payload 65536 40 4 128 c (omega arith) (omega arith)) w;
  }

  module _ (hc : Bytes c) (len : ℕ) (read : payload_of 40 4 128 c ≡ ok (take len (payload c))) (most : len ≤ length c / 512 * 504) where
    bytes : Bytes (take len (payload c))
    bytes = written_bytes 40 4 128 c (take len (payload c)) hc read

    -- the moves are refused
    pub opened_list : (e : ListFault) → move_list_of (take len (payload c)) (Err e) ≡ checked_moves d.it.graph d.it.placing (take len (payload c)) → OpenedIs a b c (Err (refusal.List e))
    opened_list e w =
        let x : checked_moves d.it.graph d.it.placing (take len (payload c)) ≡ refused (refusal.List e) = sym w ∙ list_refused e in
        λ K. record {
          answer = chain_list a b c K _ _ d.it (take len (payload c)) d.instance read x;
          small = small_at 65536 _ _ (checked_moves d.it.graph d.it.placing (take len (payload c)))
              (small_checked d.it.graph d.it.placing (take len (payload c)) bytes
              (omega (arith, ap length d.robots.goals, length-take-le pl.robots pl.goals (omega (arith, d.robots.few, d.robots.long_goals)), d.robots.few))) x;
        }

    file_moves : (k : ℕ) → ((l : ℕ) → l < k → 2 + l * 3 + 3 ≤ len) → moves_by (bytes_of (take len (payload c))) 0 k ≡ moves_by (file_bytes c) 0 k
    unfolding moves_by
    file_moves zero h = refl
    file_moves (suc k) h = moves_same (bytes_of (take len (payload c))) (file_bytes c) 0 (suc k) (λ off l. held_byte c len most off (omega (arith, h k (omega arith))))

    -- all is read
    pub opened_all : (n : ℕ) → move_list_of (take len (payload c)) (Ok n) ≡ checked_moves d.it.graph d.it.placing (take len (payload c)) → ListRead a b c t pl n
    opened_all n w =
        let x = list_passed d.it.graph d.it.placing (take len (payload c)) (moves_by (bytes_of (take len (payload c))) 0 n) bytes (sym w) in
        let ml : length (moves_by (bytes_of (take len (payload c))) 0 n) ≡ n = moves_length (bytes_of (take len (payload c))) 0 n in
        let long : length (take len (payload c)) ≡ len = held_length c len most in
        let fm = file_moves n (λ l h. omega (arith, (x.ends l (omega arith)).0, long)) in
        record {
          it = d.it;
          instance = d.instance;
          p = take len (payload c);
          read = read;
          checked = sym w ∙ ap ok fm;
          few = omega (arith, x.few);
          held = d.held;
          accepted = d.accepted;
          robots = d.robots;
          ends = λ i h. let z = x.ends i (omega arith) in rw (← held_byte c len most (4 + i * 3) (omega (arith, z.0, long))) z.1;
        }
