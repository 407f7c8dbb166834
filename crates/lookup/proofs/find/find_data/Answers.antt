-- The part from the answer's offset on, as long as its size, which lies in the data.
use mathlib.Core.Path.{refl}
use native.Mathlib.Omega.{arith}
use native.Mathlib.Nat.{add-sub_cancel_left}
use Rattle.lookup.proofs.AnswerLaws.{lookup_within}
use borrow.Author.Rules.{rules}
use Rattle.lookup.proofs.find.find_data.Goals as goal

pub slice_bounds-result-end : goal.slice_bounds-result-end
slice_bounds-result-end c = let i = lookup_within c.find-found.ensures in search rules

pub returns : goal.returns
returns c =
    let found = c.find-found in record {
      same_memory = refl;
      lookup_part = record { answer = found.result; is = found.ensures; contents = simp add-sub_cancel_left; place = omega arith };
    }
