use Rattle.frame.proofs.Words.{◌≡◌, ◌-◌, ◌∙◌, ap, sym, subst, arith, map, ◌++◌, ◌∷◌, [], inl, inr, ⊎_elim, map-append, is_essential, HasMore, In, IsFloatOfSome, IsWithEssential, option_symbols, symbols_at, names_in, labels_in, stmt_of, entry_from_ref}
use Rattle.frame.proofs.KindWalk.{walked, walk-from, walk-step, essential_chain}
use Rattle.frame.proofs.CollectLemmas.{last-in, last-out, left-none, left-step, pushed-more, those-by}
use Rattle.frame.proofs.CollectedLemmas.{found-hypotheses}
use Rattle.frame.proofs.mandatory.find_hypotheses.Goals as goal

pub loop-essential-init : goal.loop-essential-init
loop-essential-init c =
    let k = c.args.storage.now in let n = c.requires.place in
    let f = walk-from k (c.args.at - 1) c.last_active_at-essential.result essential_chain (omega (arith, n.0, n.1)) c.last_active_at-essential.ensures in
    record { at = f.at; left = rw f.same (record { there = λ p i. i; back = λ p i. i }) }

pub loop-essential-smaller : goal.loop-essential-smaller
loop-essential-smaller c = (walk-step (entry_from_ref c.entry-entry.result c.entry-entry.ensures.0) essential_chain c.requires.stored c.loop-essential.invariant.at c.loop-essential-test.true c.entry-entry.ensures.1).smaller

pub loop-essential-preserved : goal.loop-essential-preserved
loop-essential-preserved c =
    let k = c.args.storage.now in let p = c.loop-essential.essential in
    let e = entry_from_ref c.entry-entry.result c.entry-entry.ensures.0 in let g = c.entry-entry.ensures.1 in
    let s = walk-step e essential_chain c.requires.stored c.loop-essential.invariant.at c.loop-essential-test.true g in
    let next = c.entry-entry.result.before.last_active.essential in
    let rest = map (λ q. q.0) (walked is_essential k next) in
    let list = c.add_floats-in-loop-essential.new.list.items in
    let floats : HasMore (IsFloatOfSome k (c.args.at - 1) (symbols_at k.entries p)) c.push.new.self.items list =
    subst (λ codes. HasMore (IsFloatOfSome k (c.args.at - 1) codes) c.push.new.self.items list) (sym (ap option_symbols g)) c.in_ok-add_floats-2.ensures in
    let more : HasMore (IsWithEssential k (c.args.at - 1) p) c.loop-essential.list.items list = pushed-more {P = IsFloatOfSome k (c.args.at - 1) (symbols_at k.entries p)} c.in_ok-push.ensures.items floats in
    let here : map (λ q. q.0) (walked is_essential k p) ≡ rest ++ p ∷ [] = ap (map (λ q. q.0)) s.list ∙ map-append (λ q. q.0) (walked is_essential k next) ((p, stmt_of (names_in k) (labels_in k) e) ∷ []) in
    record { at = s.at; left = left-step (λ x i. last-out x p rest i) (λ x i. last-in x p rest i) more (rw here at c.loop-essential.invariant.left) }

pub returns : goal.returns
returns c = λ s is.
    let k = c.args.storage.now in
    let floats = c.in_ok-add_floats.ensures in
    let all = left-none (ap (λ n. map (λ q. q.0) (walked is_essential k n)) c.loop-essential-test.false) c.loop-essential.invariant.left in
    found-hypotheses k c.requires.stored (c.args.at - 1) s c.args.codes.now c.requires.codes is c.sort_unique.new.list.items
    (those-by c.sort_unique.ensures (λ p i. ⊎_elim (λ j. ⊎_elim (λ n. absurd (subst (In p) c.requires.empty n)) inl (floats.only p j)) inr (all.only p i)) (λ p. ⊎_elim (λ f. all.stays p (floats.all p f)) (all.all p)))
