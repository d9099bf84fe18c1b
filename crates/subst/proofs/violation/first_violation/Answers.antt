use Rattle.subst.proofs.Words.{◌&&◌, [], List, ℕ, arith, length, get_or, take_all, sym, ◌∙◌, ap, list_all, list_all_more, get_or_from_slice_get, slice_get_within, are_numbers_disjoint, image_named, images_at}
use Rattle.subst.proofs.GroupLemmas.{below-group}
use Rattle.subst.proofs.violation.first_violation.Goals as goal

pub violation_in-requires-clause-below : goal.violation_in-requires-clause-below
violation_in-requires-clause-below c = below-group (length c.args.pairs.now.names) c.args.groups.now c.loop-k.k c.get.result.now c.requires.below c.get.ensures

pub loop-k-preserved : goal.loop-k-preserved
loop-k-preserved c =
    let test = are_numbers_disjoint c.args.pairs.now.statements (image_named c.args.pairs.now.names (images_at c.as_slice-symbols.result.now c.args.images.now)) in
    let groups = c.args.groups.now in
    let k = c.loop-k.k in
    record {
      read = c.in_ok-violation.ensures.read;
      told = list_all_more test groups k [] (slice_get_within groups k c.get.result.now c.get.ensures)
          ∙ (ap (λ b. b && test (get_or groups k [])) c.loop-k.invariant.told
          ∙ (ap test (get_or_from_slice_get groups k c.get.result.now [] c.get.ensures) ∙ rw c.in_default.is at c.in_ok-violation.ensures.found));
    }

pub returns : goal.returns
returns c =
    let test = λ (symbols : List ℕ). are_numbers_disjoint c.args.pairs.now.statements (image_named c.args.pairs.now.names (images_at symbols c.args.images.now)) in
    let groups = c.args.groups.now in
    sym (ap (λ symbols. list_all (test symbols) groups) c.as_slice-symbols.ensures.symbols)
    ∙ (sym (ap (list_all (test c.as_slice-symbols.result.now)) (take_all c.loop-k.k groups (omega (arith, c.loop-k-test.false, c.len-k-end.ensures)))) ∙ c.loop-k.invariant.told)
