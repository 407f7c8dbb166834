-- Behind the root's token and name the search goes on among its members.
use Rattle.lookup.proofs.SeekLaws.{root-broken, root-unnamed, root_seeks}
use Rattle.lookup.proofs.seek.Search.root.Goals as goal

pub returns-in_err-a : goal.returns-in_err-a
returns-in_err-a c =
    rw c.from_residual-in_err-a.ensures (root-broken (λ n x. root-unnamed c.next_token.ensures c.in_ok-n.was c.name.ensures c.in_err-a.was n x))

pub returns : goal.returns
returns c = root_seeks c.next_token.ensures c.in_ok-n.was c.name.ensures c.in_ok-a.was c.members.ensures
