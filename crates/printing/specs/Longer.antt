-- A file that is longer than any valid one: its listing is that of its first bytes, as many as the longest valid file has and one more.
use Rattle.std.specs.Prelude.{ℕ, ◌+◌, ◌*◌, ◌%◌, ◌≤◌, ◌<◌, ◌≡◌, List, length, take}
use Rattle.std.proofs.Common.{sym, ap, ◌∙◌, ⊎_elim, take_all, length-take-le, arith}
use Rattle.spec.specs.Outcome.{refuse}
use Rattle.spec.specs.Wire.{payload_of, map_blocks, placing_blocks, plan_blocks}
use Rattle.spec.specs.Services.{instance_of, plan_moves}
use Rattle.wire.specs.Payload.{lt_or_ge}
use Rattle.checking.specs.Checked.{size_odd, size_over}
use Rattle.lines.specs.Listing.{listed_moves, listing_of}

-- how many bytes are read of a file of at most `limit` blocks
abbrev pub read_of : ℕ → ℕ
read_of limit = limit * 512 + 1

module _ (base kind limit : ℕ) (f : List ℕ) where
  -- a file over the limit is refused
  refused_over : limit * 512 < length f → payload_of base kind limit f ≡ refuse (base + 1) 0
  refused_over h =
      ⊎_elim
      (λ (odd : 0 < length f % 512). sym (size_odd f base kind limit (λ e. omega arith)))
      (λ (whole : length f % 512 ≤ 0). sym (size_over f base kind limit (omega arith) (omega arith) (omega arith)))
      (lt_or_ge 0 (length f % 512))

  -- the first bytes of a file say as much as the whole
  payload_longer : payload_of base kind limit (take (read_of limit) f) ≡ payload_of base kind limit f
  payload_longer =
      ⊎_elim
      (λ (long : limit * 512 < length f).
      let l = length-take-le (read_of limit) f (omega arith) in
      sym (size_odd (take (read_of limit) f) base kind limit (λ e. omega arith)) ∙ sym (refused_over long))
      (λ (short : length f ≤ limit * 512). ap (payload_of base kind limit) (take_all (read_of limit) f (omega arith)))
      (lt_or_ge (limit * 512) (length f))

-- a listing is that of the first bytes of its files
pub longer : (a b c : List ℕ) → listing_of (take (read_of map_blocks) a) (take (read_of placing_blocks) b) (take (read_of plan_blocks) c) ≡ listing_of a b c
unfolding listing_of listed_moves plan_moves instance_of
longer a b c = simp (payload_longer 10 1 9 a, payload_longer 20 2 1 b, payload_longer 30 3 64 c)
