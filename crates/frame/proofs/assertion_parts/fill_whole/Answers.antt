use Rattle.frame.proofs.Words.{◌≡◌, ◌∙◌, ◌-◌, ap, sym, subst, map, length, take, decoded_hypothesis, hypothesis_at, typecode_at, names_in, labels_in, statements_of, AreHypotheses, AreBelow, AreReordered, float_variables, is_numbered_pair, pairs_by, cut}
use Rattle.frame.proofs.DeclaredSymbolLemmas.{stored-distinct}
use Rattle.frame.proofs.MakeLemmas.{floats-below}
use Rattle.frame.proofs.AssertionLemmas.{filled-parts, no-parts}
use Rattle.frame.proofs.AssertionViewLemmas.{stored-pairs}
use Rattle.frame.proofs.assertion_parts.fill_whole.Goals as goal
use Rattle.frame.proofs.assertion_parts.fill_whole.Goals.{In_ok-begin}

numbered : (c : In_ok-begin) → map decoded_hypothesis c.encode_hypotheses.new.numbered_hypotheses.items ≡ map (hypothesis_at c.args.storage.now.entries) c.buffers.inside.hypotheses.items
numbered c = c.in_ok-encode_hypotheses.ensures.numbered_hypotheses ∙ ap (map (hypothesis_at c.args.storage.now.entries)) c.deref.ensures.value

recorded : (c : In_ok-begin) → c.begin.new.self.variables ≡ float_variables (map decoded_hypothesis c.encode_hypotheses.new.numbered_hypotheses.items)
recorded c = c.in_ok-begin.ensures ∙ ap float_variables (c.new-hypotheses.ensures ∙ ap (map decoded_hypothesis) c.deref-2.ensures.value)

low : (c : In_ok-begin) → AreBelow (length (names_in c.args.storage.now)) (float_variables (map decoded_hypothesis c.encode_hypotheses.new.numbered_hypotheses.items))
low c =
    let k = c.args.storage.now in
    subst (λ hs. AreBelow (length (names_in k)) (float_variables hs)) (sym (numbered c))
    (floats-below (length (names_in k)) (length (labels_in k)) k.entries c.buffers.inside.hypotheses.items c.requires.stored.kept.coded (subst (AreHypotheses k.entries) (sym (ap (λ v. v.hypotheses) c.buffers.view_is)) c.requires.hypotheses))

pub invariant_of-add_pairs : goal.invariant_of-add_pairs
invariant_of-add_pairs c = (c.requires.stored, stored-distinct c.args.storage.now c.requires.stored, c.requires.place.0, c.requires.place.1)

pub add_pairs-requires-clause-below : goal.add_pairs-requires-clause-below
add_pairs-requires-clause-below c = let w = (goal.at.add_pairs-requires-clause-below c).In_ok-begin in subst (AreBelow (length (names_in c.args.storage.now))) (sym (recorded w)) (low w)

pub returns-then-len-gt-MAX_KEPT : goal.returns-then-len-gt-MAX_KEPT
returns-then-len-gt-MAX_KEPT c = no-parts _ _ _ _ c.clear.ensures

pub returns-then-whole : goal.returns-then-whole
returns-then-whole c =
    let w = (goal.at.returns-then-whole c).In_ok-begin in
    let k = c.args.storage.now in
    let hs = map decoded_hypothesis c.encode_hypotheses.new.numbered_hypotheses.items in
    let made = cut c.add_pairs.new.grouped_variables.items c.add_pairs.new.groups.items in
    filled-parts k.entries (take (c.args.at - 1) (statements_of k)) c.args.buffers.now.hypotheses _ (record {
      described = record {
        same = ap (λ v. v.hypotheses) c.buffers.view_is;
        numbered_made = numbered w;
        typecodes_made = c.in_ok-encode_hypotheses.ensures.typecodes ∙ ap (map (typecode_at k.entries)) c.deref.ensures.value;
      };
      pairs_made = subst (λ l. AreReordered l made) (sym (stored-pairs k c.requires.stored (c.args.at - 1) hs (low w)))
          (subst (λ vs. AreReordered (pairs_by (is_numbered_pair (record { statements = take (c.args.at - 1) (statements_of k); names = names_in k })) vs) made) (recorded w) (c.in_ok-whole.ensures.added c.if-whole.true));
    })

pub returns : goal.returns
returns c = no-parts _ _ _ _ c.clear-2.ensures
