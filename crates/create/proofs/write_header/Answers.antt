-- Each field continues the ones before it, and all of them are the header's bytes.
use Rattle.std.proofs.Common.{arith}
use Rattle.create.proofs.Laws.{fields}
use Rattle.create.proofs.write_header.Goals as goal

pub returns : goal.returns
returns c =
    rw (c.write-5.ensures, c.write-4.ensures, c.write-3.ensures, c.write-2.ensures, c.write.ensures)
    (fields c.args.a.now c.args.h c.requires (omega arith) (omega arith) (omega arith) (omega arith))
