-- The invariant: x folds to the exclusive or of the first i words of all four quarters. At the end the quarters stand one behind the other.
use Rattle.std.proofs.Common.{◌≡◌, ℕ, ◌≤◌, List, ◌++◌, length, sym, ◌∙◌, arith, rules}
use Rattle.std.specs.List.{concat}
use Rattle.wire.specs.Bytes.{le_bytes, xor}
use Rattle.wire.proofs.Fold.{fold-xor, xor-words, first_words, first_words-all, of_four, four-next}
use Rattle.wire.proofs.xor_quarters.Goals as goal

-- all words of four quarters
four-all : (i : ℕ) (p q r s : List (List ℕ)) → length p ≤ i → length q ≤ i → length r ≤ i → length s ≤ i
    → of_four (first_words i) p q r s ≡ xor (concat (p ++ (q ++ (r ++ s))))
four-all i p q r s lp lq lr ls =
    rw (first_words-all i p lp, first_words-all i q lq, first_words-all i r lr, first_words-all i s ls, xor-words, xor-words, xor-words)

pub loop-i-init : goal.loop-i-init
unfolding xor le_bytes
loop-i-init c = search rules

pub loop-i-preserved : goal.loop-i-preserved
loop-i-preserved c =
    let l = c.loop-i in
    rw (fold-xor, l.invariant, fold-xor, fold-xor, fold-xor, c.word.ensures, c.word-in-loop-i.ensures, c.word-in-loop-i-2.ensures, c.word-in-loop-i-3.ensures)
    (sym (four-next l.i _ _ _ _ (omega arith) (omega arith) (omega arith) (omega arith)))

pub returns : goal.returns
returns c =
    c.loop-i.invariant
    ∙ four-all c.loop-i.i _ _ _ _ (omega arith) (omega arith) (omega arith) (omega arith)
    ∙ rw (c.split_at.ensures.by_index.0, c.split_at-2.ensures.by_index.0, c.split_at-3.ensures.by_index.0)
