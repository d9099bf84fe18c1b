use Rattle.frame.proofs.Words.{◌≡◌, ◌∙◌, ◌+◌, ◌-◌, ap, sym, subst, arith, length, take, take_all, length-map, ℕ, List, Option, decode, with_names, bare, expr_of, AreRecorded, symbols_declared_by, symbols_in, AreBelow, names_in, labels_in, statements_of, stmt_of, AreHypotheses, ArePartsOf, hypotheses}
use Rattle.std.specs.List.{sum_by}
use Rattle.frame.specs.Stored.EntrySizes.{IsSizeOf, listed_size}
use Rattle.frame.proofs.AssertionLemmas.{hypotheses-are, no-parts}
use Rattle.frame.proofs.DeclaredSymbolLemmas.{stored-distinct}
use Rattle.frame.proofs.EnterLemmas.{next-bare}
use Rattle.frame.proofs.SizeLemmas.{size-is}
use Rattle.frame.proofs.assertion_parts.fill_parts.Goals as goal
use Rattle.frame.proofs.assertion_parts.fill_parts.Goals.{In-Some}

pub returns-then-not-is_assertion-clause-parts : goal.returns-then-not-is_assertion-clause-parts
returns-then-not-is_assertion-clause-parts c = no-parts _ _ _ c.clear.new.self c.clear.ensures

found : (c : In-Some) → AreBelow (length (names_in c.args.storage.now)) c.in-Some.codes.now × (decode (names_in c.args.storage.now) c.in-Some.codes.now ≡ expr_of (bare c.args.stmt.now))
found c =
    let k = c.args.storage.now in let s = c.args.stmt.now in
    next-bare k c.in-Some.codes.now s (sym c.is_assertion.ensures ∙ c.if-not-is_assertion.false)
    (subst (λ (o : Option (List ℕ)). AreRecorded (with_names (names_in k) (symbols_declared_by s)) (symbols_in s) o) c.in-Some.ensures.numbers c.requires.recorded)

pub find_hypotheses-requires-clause-codes : goal.find_hypotheses-requires-clause-codes
find_hypotheses-requires-clause-codes c = (found (goal.at.find_hypotheses-requires-clause-codes c).In-Some).0

-- all statements are before the place of the assertion, and its mandatory hypotheses were found
collected : (c : In-Some) (place : ℕ) (list : List ℕ) → place ≡ length c.args.storage.now.entries → list ≡ hypotheses (take place (statements_of c.args.storage.now)) (bare c.args.stmt.now)
    → (take place (statements_of c.args.storage.now) ≡ statements_of c.args.storage.now) × (list ≡ hypotheses (statements_of c.args.storage.now) (bare c.args.stmt.now))
collected c place list is found' =
    let k = c.args.storage.now in let S = statements_of k in
    let before : take place S ≡ S = take_all place S (omega (arith, is, length-map k.entries (stmt_of (names_in k) (labels_in k)))) in
    (before, found' ∙ ap (λ T. hypotheses T (bare c.args.stmt.now)) before)

pub size_of_assertion-requires-clause-hypotheses : goal.size_of_assertion-requires-clause-hypotheses
size_of_assertion-requires-clause-hypotheses c =
    let k = c.args.storage.now in let w = (goal.at.size_of_assertion-requires-clause-hypotheses c).In-Some in
    let h = collected w (c.len-at.result + 1 - 1) c.find_hypotheses.new.list.items (omega (arith, c.len-at.ensures.len)) (c.in_ok-find_hypotheses.ensures (bare c.args.stmt.now) (found w).1) in
    subst (AreHypotheses k.entries) (sym (c.deref.ensures.value ∙ h.1)) (hypotheses-are (names_in k) (labels_in k) k.entries (bare c.args.stmt.now))

pub fill_whole-requires-clause-hypotheses : goal.fill_whole-requires-clause-hypotheses
fill_whole-requires-clause-hypotheses c =
    let k = c.args.storage.now in let w = (goal.at.fill_whole-requires-clause-hypotheses c).In-Some in
    let h = collected w (c.len-at.result + 1 - 1) c.find_hypotheses.new.list.items (omega (arith, c.len-at.ensures.len)) (c.in_ok-find_hypotheses.ensures (bare c.args.stmt.now) (found w).1) in
    subst (AreHypotheses k.entries) (sym h.1) (hypotheses-are (names_in k) (labels_in k) k.entries (bare c.args.stmt.now))

pub returns-clause-parts : goal.returns-clause-parts
returns-clause-parts c =
    let k = c.args.storage.now in let s = bare c.args.stmt.now in let w = (goal.at.returns-clause-parts c).In-Some in
    let h = collected w (c.len-at.result + 1 - 1) c.find_hypotheses.new.list.items (omega (arith, c.len-at.ensures.len)) (c.in_ok-find_hypotheses.ensures s (found w).1) in
    subst (λ T. ArePartsOf k.entries T (hypotheses (statements_of k) s) c.fill_whole.new.buffers) h.0
    (subst (λ ps. ArePartsOf k.entries (take (c.len-at.result + 1 - 1) (statements_of k)) ps c.fill_whole.new.buffers) h.1 c.in_ok-fill_whole.ensures)

-- the size that was counted
sized : (c : In-Some) (size place : ℕ) (list : List ℕ) → (take place (statements_of c.args.storage.now) ≡ statements_of c.args.storage.now) × (list ≡ hypotheses (statements_of c.args.storage.now) (bare c.args.stmt.now))
    → size ≡ length list + length c.in-Some.codes.now + sum_by (listed_size c.args.storage.now (take place (statements_of c.args.storage.now))) list → IsSizeOf (statements_of c.args.storage.now) (bare c.args.stmt.now) size
sized c size place list h counted =
    let k = c.args.storage.now in let s = bare c.args.stmt.now in
    subst (λ T. IsSizeOf T s size) h.0 (record {
      is = λ asserts. size-is k c.requires.stored (stored-distinct k c.requires.stored) place s size c.in-Some.codes.now list (h.1 ∙ ap (λ T. hypotheses T s) (sym h.0)) (found c).1 counted;
    })

pub returns-clause-size : goal.returns-clause-size
returns-clause-size c =
    let w = (goal.at.returns-clause-size c).In-Some in
    let list = c.find_hypotheses.new.list.items in
    let place = c.len-at.result + 1 - 1 in
    sized w c.in_ok-size.size place list (collected w place list (omega (arith, c.len-at.ensures.len)) (c.in_ok-find_hypotheses.ensures (bare c.args.stmt.now) (found w).1))
    (c.in_ok-size.ensures ∙ ap (λ hs. length hs + length c.in-Some.codes.now + sum_by (listed_size c.args.storage.now (take place (statements_of c.args.storage.now))) hs) c.deref.ensures.value)
