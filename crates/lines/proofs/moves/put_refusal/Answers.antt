use native.Mathlib.Omega.{arith}
use Rattle.lines.specs.Text.{put_then}
use Rattle.lines.specs.Listing.{refused_text}
use Rattle.lines.proofs.moves.put_refusal.Goals as goal

pub returns : goal.returns
unfolding refused_text
returns c = record { put = put_then (put_then c.put_word-head.ensures c.put_field-at.ensures.put) c.put_field.ensures.put; upper_bound = omega arith }
