use Rattle.wire.specs.Payload.{three_copied}
use Rattle.wire.proofs.payload.three_from.Goals as goal

pub returns : goal.returns
returns c = λ off e. three_copied c.args.file.now off c.bytes_from.result (c.bytes_from.ensures off e)
