use Rattle.frame.proofs.Words.{◌≡◌, ◌∙◌, ◌-◌, ap, map, sym, subst, refl, arith, false, [], same_Some, before, length-map, slice_get_within, decoded_hypothesis, is_hypothesis, hypothesis_at, typecode_at, float_variables, groups_in, disjoint_symbols, AreDescribed, AreGroupsOf, AreHypotheses, Assertion, names_in, labels_in, statements_of, stmt_of}
use Rattle.std.proofs.lemmas.Result.{IfOk-weaker}
use Rattle.frame.proofs.AssertionLemmas.{hypotheses-of, hypothesis-kinds}
use Rattle.frame.proofs.AssertionViewLemmas.{is-there, there-groups}
use Rattle.frame.proofs.frames.Frames.groups.Goals as goal

pub encode_hypotheses-requires-clause-hypotheses : goal.encode_hypotheses-requires-clause-hypotheses
encode_hypotheses-requires-clause-hypotheses c =
    let k = c.self.inside.storage in
    let s = c.requires.0 in
    let T = before (statements_of k) c.args.a in
    subst (AreHypotheses k.entries) (sym (c.deref.ensures.value ∙ rw (← c.self.view_is) at (c.in_ok-mandatory.ensures.listed s c.requires.1.0))) (hypotheses-of (names_in k) (labels_in k) k.entries (c.args.a - 1) (is_hypothesis T s) (hypothesis-kinds T s))

pub find_groups-requires-clause-place : goal.find_groups-requires-clause-place
find_groups-requires-clause-place c =
    let k = c.self.inside.storage in
    let t = is-there k c.args.a c.requires.0 c.self.invariant (rw (← c.self.view_is) at c.requires.1) in
    let low = slice_get_within k.entries t.0 t.1 t.2.here in
    (omega (arith, t.2.place), omega (arith, t.2.place, low, length-map k.entries (stmt_of (names_in k) (labels_in k))))

pub returns : goal.returns
returns c =
    let k = c.self.inside.storage in
    let s = c.requires.0 in
    let t = is-there k c.args.a s c.self.invariant (rw (← c.self.view_is) at c.requires.1) in
    let hs = map decoded_hypothesis c.encode_hypotheses.new.numbered_hypotheses.items in
    let d : Assertion = record { whole = false; hypotheses = c.mandatory.new.list.items; numbered_hypotheses = hs; typecodes = c.encode_hypotheses.new.typecodes.items; groups = [] } in
    let described : AreDescribed k.entries c.mandatory.new.list.items d = record {
      same = refl;
      numbered_made = c.in_ok-encode_hypotheses.ensures.numbered_hypotheses ∙ ap (map (hypothesis_at k.entries)) c.deref.ensures.value;
      typecodes_made = c.in_ok-encode_hypotheses.ensures.typecodes ∙ ap (map (typecode_at k.entries)) c.deref.ensures.value;
    } in
    let all = there-groups k c.args.a t.0 s t.1 c.self.invariant c.requires.1.1 t.2 c.mandatory.new.list.items d described (rw (← c.self.view_is) at (c.in_ok-mandatory.ensures.listed s c.requires.1.0)) in
    let recorded = c.in_ok-record_variables.ensures.variables ∙ ap float_variables (c.new.ensures ∙ ap (map decoded_hypothesis) c.deref-2.ensures.value) in
    rw (← c.self.view_is) (IfOk-weaker c.find_groups.result _ _
    (λ groups e r h.
    let same : s ≡ r = same_Some _ _ (sym (rw (← c.self.view_is) at c.requires.1.0) ∙ h) in
    subst (λ q. AreGroupsOf (statements_of k) (names_in k) c.args.a q groups) same
    (subst (AreGroupsOf (statements_of k) (names_in k) c.args.a s) (sym (e ∙ ap (λ vs. groups_in vs (disjoint_symbols k.entries (before (statements_of k) c.args.a))) recorded)) all))
    c.find_groups.ensures)
