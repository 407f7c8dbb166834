-- Each field is the number of its bytes.
use Rattle.rules.specs.Certificate.{certificate_of}
use Rattle.certificate.proofs.contents.read_certificate.Goals as goal

pub returns : goal.returns
unfolding certificate_of
returns c =
    rw (
      c.read.ensures,
      c.read-2.ensures,
      c.read-3.ensures,
      c.read-4.ensures,
      c.read-5.ensures,
      c.read-6.ensures,
      c.read-7.ensures,
      c.read-8.ensures,
    )
