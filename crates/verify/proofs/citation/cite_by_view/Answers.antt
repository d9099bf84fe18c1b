use Rattle.verify.proofs.Words.{MayCite, ◌≡◌, ℕ, ◌<◌, ◌↔◌, Bool, true, false, is_some, IsTrue, List, length, map, arith, refl, sym, ap, HeldResults, IsKept, ◌∙◌, subst, IfOk-weaker, Name, Database, decode, CodeImages, images_of_names, Hypothesis, Reads, HypothesesMatch, Results, below, top, Adds}
use Rattle.verify.proofs.RequiredHypotheses.{required-lengths, required-different, required-standing}
use Rattle.verify.proofs.CitationLemmas.{over-read, has-cited, not-cited}
use Rattle.verify.proofs.ResultPlaceLemmas.{kept-as}
use Rattle.subst.proofs.PastLemmas.{err_weaker}
use Rattle.verify.proofs.CountLemmas.{fit-apart, fit-done, fit-heavy, fit-not, fit-past}
use Rattle.verify.proofs.ItemCountLemmas.{ok-both, passed_on}
use Rattle.verify.specs.Counted.{IsPastPairs}
use Rattle.verify.specs.Metered.{with_work}
use Rattle.verify.proofs.citation.cite_by_view.Goals as goal

-- a fact about one flag holds of a flag that is equal to it
reads-as : (ok b : Bool) (typecodes : List ℕ) (hs : List Hypothesis) (rs : List (List ℕ)) (σ : CodeImages) → ok ≡ b → Reads ok typecodes hs rs σ → Reads b typecodes hs rs σ
reads-as ok b typecodes hs rs σ e r = subst (λ v. Reads v typecodes hs rs σ) e r

fit-as : (b : Bool) (S : Database) (names : List Name) (σ : CodeImages) (hs : List Hypothesis) (stack stack' : List (List ℕ)) → stack ≡ stack'
    → IsTrue b ↔ HypothesesMatch S (images_of_names names σ) hs (map (decode names) (top (length hs) stack)) → IsTrue b ↔ HypothesesMatch S (images_of_names names σ) hs (map (decode names) (top (length hs) stack'))
fit-as b S names σ hs stack stack' e h = subst (λ v. IsTrue b ↔ HypothesesMatch S (images_of_names names σ) hs (map (decode names) (top (length hs) v))) e h

adds-as : (ok : Bool) (old old' new : Results ℕ) (m n : ℕ) (e : List ℕ) → old ≡ old' → m ≡ n → Adds ok old new (below m old.stack) e → Adds ok old' new (below n old'.stack) e
adds-as ok old old' new m n e same count h = subst (λ (v : Results ℕ). Adds ok v new (below n v.stack) e) same (subst (λ k. Adds ok old new (below k old.stack) e) count h)

pub read_images-requires-clause-same : goal.read_images-requires-clause-same
read_images-requires-clause-same c = let l = required-lengths _ _ _ _ _ (c.requires.cited c.requires.may.assertion.0 c.requires.may.assertion.1.0).numbered_hypotheses in l.0 ∙ sym l.1

pub read_images-requires-clause-different : goal.read_images-requires-clause-different
read_images-requires-clause-different c = required-different _ _ _ c.requires.may.assertion.0 _ _ (c.requires.may.ready.legal.well_typed _ c.requires.may.assertion.0 c.requires.may.assertion.1) (c.requires.cited c.requires.may.assertion.0 c.requires.may.assertion.1.0).numbered_hypotheses

pub hypotheses_match-requires-clause-present : goal.hypotheses_match-requires-clause-present
hypotheses_match-requires-clause-present c = required-standing _ _ _ _ _ (c.requires.cited c.requires.may.assertion.0 c.requires.may.assertion.1.0).numbered_hypotheses

pub hypotheses_match-requires-clause-over : goal.hypotheses_match-requires-clause-over
hypotheses_match-requires-clause-over c = over-read _ _ _ c.requires.may c.args.cited.now c.requires.cited c.read_images.new.self.images (let h = c.if-count-len.false in omega (arith, h, c.len.ensures)) (reads-as _ true _ _ _ _ (ap is_some c.in-Some.is) c.in_ok-has_essentials.ensures.read)

pub are_images_disjoint-requires-clause-may : goal.are_images_disjoint-requires-clause-may
are_images_disjoint-requires-clause-may c = subst (MayCite c.args.context.now c.args.position) (sym c.in_ok-has_essentials.ensures.same) c.requires.may

pub are_images_disjoint-requires-clause-over : goal.are_images_disjoint-requires-clause-over
are_images_disjoint-requires-clause-over c = over-read _ _ _ c.requires.may c.args.cited.now c.requires.cited c.read_images.new.self.images (let h = c.if-count-len.false in omega (arith, h, c.len.ensures)) (reads-as _ true _ _ _ _ (ap is_some c.in-Some.is) c.in_ok-has_essentials.ensures.read)

pub returns-then-count-len-clause-effect : goal.returns-then-count-len-clause-effect
returns-then-count-len-clause-effect c =
    let few : length c.args.results.now.results.stack < length c.args.cited.now.hypotheses = omega (arith, c.if-count-len.true, c.len.ensures) in
    not-cited _ _ _ c.requires.may c.args.cited.now c.requires.cited c.args.results.now.results (λ f m. (let many = m.many in omega (arith, few, many)))

pub returns-in_default-clause-effect : goal.returns-in_default-clause-effect
returns-in_default-clause-effect c =
    let r = reads-as _ false _ _ _ _ (ap is_some c.in_default.is) c.in_ok-has_essentials.ensures.read in
    not-cited _ _ _ c.requires.may c.args.cited.now c.requires.cited c.read_images.new.self.results (λ f m. r.3 (m.typed r.0 r.1 r.2))

pub returns-then-not-hypotheses_match-clause-effect : goal.returns-then-not-hypotheses_match-clause-effect
returns-then-not-hypotheses_match-clause-effect c =
    not-cited _ _ _ c.requires.may c.args.cited.now c.requires.cited c.read_images.new.self.results
    (λ f m. (let e = (fit-as _ _ _ _ _ _ _ (ap (λ (v : Results ℕ). v.stack) c.in_ok-has_essentials.ensures.same) c.hypotheses_match.ensures).1 (m.fits c.read_images.new.self.images (reads-as _ true _ _ _ _ (ap is_some c.in-Some.is) c.in_ok-has_essentials.ensures.read)) in let t = c.if-not-hypotheses_match.true in cc))

pub returns-then-not-branch-clause-effect : goal.returns-then-not-branch-clause-effect
returns-then-not-branch-clause-effect c =
    not-cited _ _ _ c.requires.may c.args.cited.now c.requires.cited c.are_images_disjoint.new.results.results
    (λ f m. (let e : true ≡ false = sym (m.disjoint c.read_images.new.self.images (reads-as _ true _ _ _ _ (ap is_some c.in-Some.is) c.in_ok-has_essentials.ensures.read) c.requires.may.assertion.0 c.requires.may.assertion.1.0) ∙ (sym (c.in_ok-are_images_disjoint.ensures.disjoint c.requires.may.assertion.0 c.requires.may.assertion.1.0) ∙ c.if-not-branch.true) in cc))

pub returns-clause-effect : goal.returns-clause-effect
returns-clause-effect c =
    IfOk-weaker c.apply.result _ _
    (λ ok adds. has-cited _ _ _ c.requires.may c.args.cited.now c.requires.cited ok _ c.read_images.new.self.images (let h = c.if-count-len.false in omega (arith, h, c.len.ensures)) (reads-as _ true _ _ _ _ (ap is_some c.in-Some.is) c.in_ok-has_essentials.ensures.read) ((fit-as _ _ _ _ _ _ _ (ap (λ (v : Results ℕ). v.stack) c.in_ok-has_essentials.ensures.same) c.hypotheses_match.ensures).0 c.if-not-hypotheses_match.false)
    (λ s h. sym c.if-not-branch.false ∙ c.in_ok-are_images_disjoint.ensures.disjoint s h)
    (adds-as ok c.read_images.new.self.results _ _ _ _ _ c.in_ok-has_essentials.ensures.same c.len-count.ensures adds))
    (rw c.in_ok-are_images_disjoint.ensures.same at c.apply.ensures.adds)

pub returns-clause-kept : goal.returns-clause-kept
returns-clause-kept c =
    IfOk-weaker c.apply.result _ _ (λ ok kept. kept-as ok _ _ _ c.in_ok-has_essentials.ensures.same c.in_ok-has_essentials.ensures.symbols kept)
    (rw c.in_ok-are_images_disjoint.ensures.same at c.apply.ensures.kept)

-- ---- what is counted

pub returns-then-count-len-clause-counted : goal.returns-then-count-len-clause-counted
returns-then-count-len-clause-counted c =
    let few : length c.args.results.now.results.stack < length c.args.cited.now.hypotheses = omega (arith, c.if-count-len.true, c.len.ensures) in
    fit-not c.args.context.now c.args.position c.args.results.now c.requires.may c.args.cited.now c.requires.cited c.args.results.now c.args.meter.now c.args.meter.now refl refl (λ m. (let many = m.many in omega (arith, few, many)))

pub returns-in_default-clause-counted : goal.returns-in_default-clause-counted
returns-in_default-clause-counted c =
    let r = reads-as _ false _ _ _ _ (ap is_some c.in_default.is) c.in_ok-has_essentials.ensures.read in
    fit-not c.args.context.now c.args.position c.args.results.now c.requires.may c.args.cited.now c.requires.cited c.read_images.new.self c.args.meter.now c.args.meter.now c.in_ok-has_essentials.ensures.same refl (λ m. r.3 (m.typed r.0 r.1 r.2))

pub returns-then-not-hypotheses_match-clause-counted : goal.returns-then-not-hypotheses_match-clause-counted
returns-then-not-hypotheses_match-clause-counted c =
    fit-not c.args.context.now c.args.position c.args.results.now c.requires.may c.args.cited.now c.requires.cited c.read_images.new.self c.args.meter.now c.args.meter.now c.in_ok-has_essentials.ensures.same refl
    (λ m. (let e = (fit-as _ _ _ _ _ _ _ (ap (λ (v : Results ℕ). v.stack) c.in_ok-has_essentials.ensures.same) c.hypotheses_match.ensures).1 (m.fits c.read_images.new.self.images (reads-as _ true _ _ _ _ (ap is_some c.in-Some.is) c.in_ok-has_essentials.ensures.read)) in let t = c.if-not-hypotheses_match.true in cc))

pub returns-then-not-branch-clause-counted : goal.returns-then-not-branch-clause-counted
returns-then-not-branch-clause-counted c =
    fit-apart c.args.context.now c.args.position c.args.results.now c.requires.may c.args.cited.now c.requires.cited c.read_images.new.self.images c.args.meter.now c.are_images_disjoint.new.meter
    (let h = c.if-count-len.false in omega (arith, h, c.len.ensures)) (reads-as _ true _ _ _ _ (ap is_some c.in-Some.is) c.in_ok-has_essentials.ensures.read)
    ((fit-as _ _ _ _ _ _ _ (ap (λ (v : Results ℕ). v.stack) c.in_ok-has_essentials.ensures.same) c.hypotheses_match.ensures).0 c.if-not-hypotheses_match.false)
    c.in_ok-are_images_disjoint.ensures.counted c.are_images_disjoint.new.results (ap (λ (v : HeldResults). v.results) c.in_ok-are_images_disjoint.ensures.same ∙ c.in_ok-has_essentials.ensures.same)
    (λ s h. sym c.if-not-branch.true ∙ c.in_ok-are_images_disjoint.ensures.disjoint s h)

pub returns-in_err-are_images_disjoint-clause-costly : goal.returns-in_err-are_images_disjoint-clause-costly
returns-in_err-are_images_disjoint-clause-costly c =
    passed_on c.from_residual-in_err-are_images_disjoint.result c.in_err-are_images_disjoint.field-0.0 _ c.from_residual-in_err-are_images_disjoint.ensures.1
    (λ is. fit-past c.args.context.now c.args.position c.args.results.now c.requires.may c.args.cited.now c.requires.cited c.read_images.new.self.images c.args.meter.now c.args.meter.now
    (let h = c.if-count-len.false in omega (arith, h, c.len.ensures)) (reads-as _ true _ _ _ _ (ap is_some c.in-Some.is) c.in_ok-has_essentials.ensures.read)
    ((fit-as _ _ _ _ _ _ _ (ap (λ (v : Results ℕ). v.stack) c.in_ok-has_essentials.ensures.same) c.hypotheses_match.ensures).0 c.if-not-hypotheses_match.false)
    (subst (λ (r : Results ℕ). IsPastPairs c.args.context.now c.args.position c.read_images.new.self.images (with_work c.args.meter.now r.weight)) c.in_ok-has_essentials.ensures.same (c.in_err-are_images_disjoint.ensures.costly is)))

pub returns-clause-counted : goal.returns-clause-counted
returns-clause-counted c =
    IfOk-weaker c.apply.result _ _
    (λ ok known. fit-done c.args.context.now c.args.position c.args.results.now c.requires.may c.args.cited.now c.requires.cited c.read_images.new.self.images c.args.meter.now c.are_images_disjoint.new.meter
    (let h = c.if-count-len.false in omega (arith, h, c.len.ensures)) (reads-as _ true _ _ _ _ (ap is_some c.in-Some.is) c.in_ok-has_essentials.ensures.read)
    ((fit-as _ _ _ _ _ _ _ (ap (λ (v : Results ℕ). v.stack) c.in_ok-has_essentials.ensures.same) c.hypotheses_match.ensures).0 c.if-not-hypotheses_match.false)
    c.in_ok-are_images_disjoint.ensures.counted ok c.apply.new.self (λ s h. sym c.if-not-branch.false ∙ c.in_ok-are_images_disjoint.ensures.disjoint s h)
    known.0.1 (λ e. (subst (λ b. IsKept b c.args.results.now c.apply.new.self) e known.1).0)
    (adds-as ok c.read_images.new.self.results _ _ _ _ _ c.in_ok-has_essentials.ensures.same c.len-count.ensures known.0.0))
    (ok-both c.apply.result _ _ (ok-both c.apply.result _ _ (rw c.in_ok-are_images_disjoint.ensures.same at c.apply.ensures.adds) c.apply.ensures.light) (returns-clause-kept c))

pub returns-clause-costly : goal.returns-clause-costly
returns-clause-costly c =
    err_weaker c.apply.result _ _
    (λ stop costly is. fit-heavy c.args.context.now c.args.position c.args.results.now c.requires.may c.args.cited.now c.requires.cited c.read_images.new.self.images c.args.meter.now c.are_images_disjoint.new.meter
    (let h = c.if-count-len.false in omega (arith, h, c.len.ensures)) (reads-as _ true _ _ _ _ (ap is_some c.in-Some.is) c.in_ok-has_essentials.ensures.read)
    ((fit-as _ _ _ _ _ _ _ (ap (λ (v : Results ℕ). v.stack) c.in_ok-has_essentials.ensures.same) c.hypotheses_match.ensures).0 c.if-not-hypotheses_match.false)
    c.in_ok-are_images_disjoint.ensures.counted (λ s h. sym c.if-not-branch.false ∙ c.in_ok-are_images_disjoint.ensures.disjoint s h)
    c.read_images.new.self c.in_ok-has_essentials.ensures.same (costly is))
    (rw c.in_ok-are_images_disjoint.ensures.same at c.apply.ensures.costly)
