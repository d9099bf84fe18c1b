-- Statements added one by one, and those that are left to judge after them.
use Rattle.library.proofs.Words.{◌≡◌, ℕ, ◌+◌, ◌-◌, ◌<◌, true, false, [], ◌∷◌, ◌++◌, length, length-append, take, drop, get_or, Option, Some, None, Result, Ok, Err, IfSome, arith, refl, sym, ◌∙◌, ap, subst, append_assoc, map_more, drop_more, Stmt, Database, BrokenRule as Rule, Cause, bare, bares, broken_rule, first_broken, or_later, IsLegal, Memory, Tables}
use Rattle.verify.specs.Metered.{Metered, is_past, with_work}
use Rattle.library.specs.Added.{AreKnown, IsOneAdded, IsStop, added_work}
use Rattle.library.specs.ProofJobs.{proofs_work}
use Rattle.library.specs.Work.{statement_work}
use Rattle.library.specs.declared.adding.AddOutcome.{AddOutcome}
use Rattle.library.specs.declared.verdict.Cause.TheVariants.{Rule as RuleCause, TooCostly}
use Rattle.library.proofs.CausesLemmas.{broken-number}
use Rattle.library.proofs.JoinedRulesLemmas.{first_broken-taken}
use Rattle.library.proofs.WorkLemmas.{total-more, with_work-add}

pub taken-more : (S : Database) (i : ℕ) (s : Stmt) → i < length S → s ≡ get_or S i s → bares (take (i + 1) S) ≡ bares (take i S) ++ bare s ∷ []
taken-more S i s less is = map_more bare S i s less ∙ ap (λ r. bares (take i S) ++ bare r ∷ []) (sym is)

-- the old statements and the first i of a list, with the next one appended
pub kept-more : (cur old next S : Database) (i : ℕ) (s : Stmt) → i < length S → s ≡ get_or S i s → cur ≡ old ++ bares (take i S) → next ≡ cur ++ bare s ∷ [] → next ≡ old ++ bares (take (i + 1) S)
kept-more cur old next S i s less is before after =
    after ∙ (ap (λ U. U ++ bare s ∷ []) before ∙ (append_assoc old (bares (take i S)) (bare s ∷ []) ∙ ap (λ U. old ++ U) (sym (taken-more S i s less is))))

pub left-at : (cur S : Database) (i : ℕ) (s : Stmt) → i < length S → s ≡ get_or S i s → first_broken (i + 1) cur (drop i S) ≡ first_broken (i + 1) cur (s ∷ drop (i + 1) S)
left-at cur S i s less is = ap (first_broken (i + 1) cur) (drop_more S i s less ∙ ap (λ r. r ∷ drop (i + 1) S) (sym is))

pub left-more : (cur old next S : Database) (i : ℕ) (s : Stmt) → i < length S → s ≡ get_or S i s → None ≡ broken_rule cur s → next ≡ cur ++ bare s ∷ []
    → first_broken 1 old S ≡ first_broken (i + 1) cur (drop i S) → first_broken 1 old S ≡ first_broken (i + 1 + 1) next (drop (i + 1) S)
left-more cur old next S i s less is legal after left =
    left ∙ (left-at cur S i s less is ∙ (first_broken-taken (i + 1) cur s (drop (i + 1) S) (sym legal) ∙ ap (λ U. first_broken (i + 1 + 1) U (drop (i + 1) S)) (sym after)))

-- a failure that is not one of memory is the rule that is broken
pub rule-is : (r : Option Rule) (rule : Rule) → IfSome r (λ other. ◌≡◌ {A = Result (Unit {0}) Rule} (Err rule) (Err other)) → (r ≡ None → rule ≡ Memory) → (rule ≡ Memory → ⊥) → r ≡ Some rule
rule-is None rule shown none other = absurd (other (none refl))
rule-is (Some r) rule shown none other = ap Some (let e = shown in cc)

-- if closing succeeds, no rule is broken at the end
pub none-at-end : (r : Option Rule) (result : Result (Unit {0}) Rule) → IfSome r (λ rule. result ≡ Err rule) → result ≡ Ok tt → r ≡ None
none-at-end None result shown ok = refl
none-at-end (Some rule) result shown ok = absurd (let e = shown in cc)

pub rule-at-end : (r : Option Rule) (result : Result (Unit {0}) Rule) (rule : Rule) → IfSome r (λ rule. result ≡ Err rule) → (r ≡ None → result ≡ Ok tt) → result ≡ Err rule → r ≡ Some rule
rule-at-end None result rule shown closed err = absurd (let e = closed refl in cc)
rule-at-end (Some other) result rule shown closed err = ap Some (let e = shown in cc)

-- ---- the work of statements added one by one

-- one more statement is counted
pub metered-more : (S T cur : Database) (i : ℕ) (s : Stmt) (m m' m'' : Metered) → i < length T → s ≡ get_or T i s → cur ≡ S ++ bares (take i T)
    → m' ≡ with_work m (added_work S T i) → m'' ≡ with_work m' (statement_work cur s) → m'' ≡ with_work m (added_work S T (i + 1))
metered-more S T cur i s m m' m'' less is at before after =
    let more = total-more statement_work S T i s less in
    let one : statement_work cur s ≡ statement_work (S ++ bares (take i T)) (get_or T i s) = ap (λ U. statement_work U s) at ∙ ap (statement_work (S ++ bares (take i T))) is in
    after ∙ (ap (λ k. with_work k (statement_work cur s)) before ∙ with_work-add m (added_work S T i) (statement_work cur s) (added_work S T (i + 1)) (omega (arith, more, one)))

-- where a statement is not added, all those before it being added, the adding stops
pub stopped-at : (S T : Database) (old new : Tables) (i : ℕ) (s : Stmt) (m m' m'' : Metered) (cause : Cause) → i < length T → s ≡ get_or T i s
    → first_broken 1 S T ≡ first_broken (i + 1) old.rules.statements (drop i T) → old.frames.statements ≡ old.rules.statements → old.rules.statements ≡ S ++ bares (take i T)
    → m' ≡ with_work m (added_work S T i) → is_past m' ≡ false → IsOneAdded (i + 1) old new s m' m'' (Some cause) → IsStop (first_broken 1 S T) (length T) (added_work S T) m m'' (Some cause)
stopped-at S T old new i s m m' m'' (RuleCause n rule) less is left same at before within h = (
  left ∙ (left-at old.rules.statements T i s less is
      ∙ (ap (λ r. or_later (i + 1) r (first_broken (i + 1 + 1) (old.rules.statements ++ s ∷ []) (drop (i + 1) T))) (subst (λ U. broken_rule U s ≡ Some rule) same h.1)
      ∙ ap (λ k. Some (k, rule)) (sym h.0))),
  (let number = h.0 in let last : i ≡ n - 1 = omega (arith, number) in
      subst (λ k. is_past (with_work m (added_work S T k)) ≡ false) last (subst (λ k. is_past k ≡ false) before within)),
)
stopped-at S T old new i s m m' m'' (TooCostly n) less is left same at before within h =
    let number = h.0 in
    let last : i ≡ n - 1 = omega (arith, number) in
    let next = left-more old.rules.statements S (old.rules.statements ++ bare s ∷ []) T i s less is (sym (subst (λ U. IsLegal U s) same h.1)) refl left in (
      (λ k rule e. let low = broken-number (i + 1 + 1) (old.rules.statements ++ bare s ∷ []) (drop (i + 1) T) k rule (sym next ∙ e) in omega (arith, number, low)),
      omega (arith, number, less),
      record {
        some = omega (arith, number);
        within = subst (λ k. is_past (with_work m (added_work S T k)) ≡ false) last (subst (λ k. is_past k ≡ false) before within);
        past = subst (λ k. is_past (with_work m (added_work S T k)) ≡ true) (sym number)
            (subst (λ k. is_past k ≡ true) (metered-more S T old.frames.statements i s m m' _ less is (same ∙ at) before refl) h.2);
      },
    )
stopped-at S T old new i s m m' m'' cause less is left same at before within h = absurd h

-- all statements are counted
pub metered-all : (S T : Database) (i : ℕ) (m m' : Metered) → i ≡ length T → m' ≡ with_work m (added_work S T i) → m' ≡ with_work m (added_work S T (length T))
metered-all S T i m m' all before = before ∙ ap (λ k. with_work m (added_work S T k)) all

-- no proofs are known if none are judged ahead
pub known-none : (T : Database) (a : AddOutcome) (n : ℕ) → a.proved_to ≡ n → a.proofs_work ≡ 0 → (L : Database) → length L ≡ n → AreKnown (L ++ T) (length L) a
known-none T a n is none L alone = record {
  proved = record {
    low = omega (arith, is, alone);
    within = omega (arith, is, alone, length-append L T);
    proved = λ at above below. absurd (omega (arith, is, alone, above, below));
  };
  work = (let same : a.proved_to - length L ≡ 0 = omega (arith, is, alone) in none ∙ sym (ap (proofs_work (L ++ T) (length L)) same));
}
