use Rattle.wire.specs.Payload.{four_copied}
use Rattle.wire.proofs.payload.payload_four.Goals as goal

pub returns : goal.returns
returns c = four_copied c.args.file.now c.args.off c.bytes_from.result (c.bytes_from.ensures c.args.off c.place_of.ensures)
