-- A text that is judged after given statements, under a given charter and limit, has at most one
-- verdict.
use Rattle.library.proofs.Words.{◌≡◌, ◌≢◌, ℕ, zero, suc, ◌+◌, ◌-◌, ◌<◌, ◌≤◌, true, false, IsTrue, IsFalse, List, [], ◌∷◌, ◌++◌, length, take, Option, Some, None, refl, sym, ◌∙◌, ap, subst, arith, inl, inr, cases_lt, append-nil, append_assoc, take_all, Name, Stmt, Database, bares, tokens_of, Reads, HasTokens, BrokenRule, broken_rule, end_rule, numbered, or_later, proof_of, first_broken, is_unfinished, Submission, Cause, TooLong, Shape, NotChartered, Rule, Proof, Unfinished, Verdict, Added, Refused, first_forbidden, Good, IsProvable, IsProved, IsReadable, IsAllowed, IsFirstUnproved, IsFault, IsCause, LexFault, IsLexFault, HasOnlyAllowedBytes-no_fault, AreTokens-no_comment_fault, one_statement_list, MAX_BYTES, some-same, same_tokens}
use Rattle.mm_lex.specs.declared.fault.LexFault.TheVariants as lex
use Rattle.library.specs.declared.verdict.Cause.TheVariants.{LeavesHypotheses, Text, TooCostly}
use Rattle.library.specs.Causes.{BreaksAfter, HasLexFault, HasNoShape, IsJudgedTo, IsOutcome, IsPastLimit, IsReached, IsReachedIn, IsRefusal, first_leaving}
use Rattle.library.specs.Work.{Counts, Stage, bytes_alone, to_statement, to_proof, counts_to, judged_counts, past_limit, proof_counts, stage_of, statement_counts, statement_work, theorem_work}
use Rattle.library.proofs.WorkLemmas.{counts-front, past_limit-longer, take-none}
use Rattle.library.proofs.GoodLemmas.{provable-after}
use Rattle.library.proofs.JoinedRulesLemmas.{legal-text}

-- ---- the statements that a text reads as

pub one-reading : (text : List ℕ) (S T : Database) → Reads text S → Reads text T → S ≡ T
one-reading text S T p q = one_statement_list S T p.shaped q.shaped (same_tokens text (tokens_of S) (tokens_of T) p.tokens q.tokens)

fault-or-tokens : (text : List ℕ) (tokens : List Name) → HasLexFault text → HasTokens text tokens → ⊥
fault-or-tokens text tokens h has = by h.fault h.is h.other
  where
    by : (fault : LexFault) → IsLexFault text fault → fault ≢ lex.Memory → ⊥
    by (lex.Text offset) is other = HasOnlyAllowedBytes-no_fault text offset has.1.0 is
    by (lex.Comment offset) is other = AreTokens-no_comment_fault text has.0 offset has.1 is
    by lex.Memory is other = other refl

none-or-reading : (text : List ℕ) (T : Database) → HasNoShape text → Reads text T → ⊥
none-or-reading text T h reads = h.none T reads.shaped (same_tokens text (tokens_of T) h.tokens reads.tokens h.has)

-- ---- the first broken rule

-- the number of the first statement that breaks a rule is at least that of the first statement
pub broken-number : (at : ℕ) (L T : Database) (n : ℕ) (rule : BrokenRule) → first_broken at L T ≡ Some (n, rule) → at ≤ n
broken-number at L [] n rule h = by (end_rule L) h
  where
    by : (r : Option BrokenRule) → numbered at r ≡ Some (n, rule) → at ≤ n
    by None e = absurd (let f = e in cc)
    by (Some other) e = let pair = some-same {o = Some (at, other)} refl e in let same : at ≡ n = ap (λ (k : ℕ × BrokenRule). k.0) pair in omega (arith, same)
broken-number at L (s ∷ T) n rule h = by (broken_rule L s) (broken-number (at + 1) (L ++ s ∷ []) T n rule) h
  where
    by : (r : Option BrokenRule) → (first_broken (at + 1) (L ++ s ∷ []) T ≡ Some (n, rule) → at + 1 ≤ n)
        → or_later at r (first_broken (at + 1) (L ++ s ∷ []) T) ≡ Some (n, rule) → at ≤ n
    by None rest e = let more = rest e in omega (arith, more)
    by (Some other) rest e = let pair = some-same {o = Some (at, other)} refl e in let same : at ≡ n = ap (λ (k : ℕ × BrokenRule). k.0) pair in omega (arith, same)

-- ---- the least `$p` that is not proved

one-unproved : (L T : Database) (m n : ℕ) (s r : Stmt) → IsFirstUnproved L T m s → IsFirstUnproved L T n r → m ≡ n
one-unproved L T m n s r p q = by (m - n) refl (n - m) refl
  where
    by : (i : ℕ) → m - n ≡ i → (j : ℕ) → n - m ≡ j → m ≡ n
    by (suc i) e j f = absurd (q.unproved (p.earlier n r (omega (arith, e)) q.here))
    by zero e (suc j) f = absurd (p.unproved (q.earlier m s (omega (arith, f)) p.here))
    by zero e zero f = omega (arith, e, f)

-- ---- the outcome, the work aside

some-or-none : {A : Type 0} (o : Option A) (a : A) → o ≡ Some a → o ≡ None → ⊥
some-or-none o a p q = absurd (let e : Some a ≡ None = sym p ∙ q in cc)

module _ (limit : Option ℕ) (L : Database) (charter : Option (List ℕ)) (submission : Submission) where
  -- the outcome of a text that reads as T, by the number of its first forbidden statement, if there
  -- is one
  abbrev Late : Database → Option ℕ → Option Cause → Type 0
  Late T (Some n) outcome = outcome ≡ Some (NotChartered n)
  Late T None None = (first_leaving limit T ≡ None) × Good (L ++ T)
  Late T None (Some cause) = IsRefusal limit L T cause

  module _ (T : Database) where
    not-both : (m n : ℕ) (s r : Stmt) → IsFirstUnproved L T m s → IsFirstUnproved L T n r → IsFalse (is_unfinished (proof_of s)) → IsTrue (is_unfinished (proof_of r)) → ⊥
    not-both m n s r p q no_mark has_mark =
        let same = some-same p.here.stands (ap (Rattle.scope.specs.Active.stmt_at T) (one-unproved L T m n s r p q) ∙ q.here.stands) in
        absurd (let e : false ≡ true = sym no_mark ∙ (ap (λ t. is_unfinished (proof_of t)) same ∙ has_mark) in cc)

    one-fault : (c d : Cause) → IsFault L T c → IsFault L T d → c ≡ d
    one-fault (Rule n rule) (Rule m other) p q = ap (λ (k : ℕ × BrokenRule). Rule k.0 k.1) (let e : Some (n, rule) ≡ Some (m, other) = sym p ∙ q in cc)
    one-fault (Rule n rule) (Proof m) p q = absurd (some-or-none (first_broken 1 L T) (n, rule) p q.1)
    one-fault (Rule n rule) (Unfinished m) p q = absurd (some-or-none (first_broken 1 L T) (n, rule) p q.1)
    one-fault (Proof n) (Rule m rule) p q = absurd (some-or-none (first_broken 1 L T) (m, rule) q p.1)
    one-fault (Proof n) (Proof m) p q = ap (λ k. Proof k) (one-unproved L T n m p.0 q.0 p.2 q.2)
    one-fault (Proof n) (Unfinished m) p q = absurd (not-both n m p.0 q.0 p.2 q.2 p.3 q.3)
    one-fault (Unfinished n) (Rule m rule) p q = absurd (some-or-none (first_broken 1 L T) (m, rule) q p.1)
    one-fault (Unfinished n) (Proof m) p q = absurd (not-both m n q.0 p.0 q.2 p.2 q.3 p.3)
    one-fault (Unfinished n) (Unfinished m) p q = ap (λ k. Unfinished k) (one-unproved L T n m p.0 q.0 p.2 q.2)
    one-fault (Rule n rule) d p q = absurd q
    one-fault (Proof n) d p q = absurd q
    one-fault (Unfinished n) d p q = absurd q
    one-fault c d p q = absurd p

    good-or-fault : Good (L ++ T) → (c : Cause) → IsFault L T c → ⊥
    good-or-fault good (Rule n rule) p = some-or-none (first_broken 1 L T) (n, rule) p (legal-text L T good.legal)
    good-or-fault good (Proof n) p = p.2.unproved (good.proved (length L + n) p.0 (provable-after L T n p.0 p.2.here))
    good-or-fault good (Unfinished n) p = p.2.unproved (good.proved (length L + n) p.0 (provable-after L T n p.0 p.2.here))
    good-or-fault good c p = p

    one-refusal : (c d : Cause) → IsRefusal limit L T c → IsRefusal limit L T d → c ≡ d
    one-refusal (Rule n rule) (Rule m other) p q = one-fault (Rule n rule) (Rule m other) p q
    one-refusal (Rule n rule) (LeavesHypotheses m) p q = absurd (some-or-none (first_broken 1 L T) (n, rule) p q.0)
    one-refusal (Rule n rule) d p q = one-fault (Rule n rule) d p q.1
    one-refusal (LeavesHypotheses n) (Rule m rule) p q = absurd (some-or-none (first_broken 1 L T) (m, rule) q p.0)
    one-refusal (LeavesHypotheses n) (LeavesHypotheses m) p q = ap (λ k. LeavesHypotheses k) (some-same p.1 q.1)
    one-refusal (LeavesHypotheses n) d p q = absurd (some-or-none (first_leaving limit T) n p.1 q.0)
    one-refusal c (Rule m rule) p q = one-fault c (Rule m rule) p.1 q
    one-refusal c (LeavesHypotheses m) p q = absurd (some-or-none (first_leaving limit T) m q.1 p.0)
    one-refusal c d p q = one-fault c d p.1 q.1

    good-or-refusal : first_leaving limit T ≡ None → Good (L ++ T) → (c : Cause) → IsRefusal limit L T c → ⊥
    good-or-refusal none good (Rule n rule) p = good-or-fault good (Rule n rule) p
    good-or-refusal none good (LeavesHypotheses n) p = some-or-none (first_leaving limit T) n p.1 none
    good-or-refusal none good c p = good-or-fault good c p.1

    one-late : (o : Option ℕ) (v w : Option Cause) → Late T o v → Late T o w → v ≡ w
    one-late (Some n) v w l m = l ∙ sym m
    one-late None None None l m = refl
    one-late None None (Some d) l m = absurd (good-or-refusal l.0 l.1 d m)
    one-late None (Some c) None l m = absurd (good-or-refusal m.0 m.1 c l)
    one-late None (Some c) (Some d) l m = ap (λ e. Some e) (one-refusal c d l m)

  -- the stages at which an outcome is known
  data Reason (T : Database) (o : Option Cause) : Type 0 where
    faulty : o ≡ Some Text → T ≡ [] → HasLexFault submission.text → Reason T o
    shapeless : o ≡ Some Shape → T ≡ [] → HasNoShape submission.text → Reason T o
    late : IsReadable submission.text T → Late T (first_forbidden charter submission.author T) o → Reason T o

  reason : (T : Database) (o : Option Cause) → IsOutcome limit L charter submission T o → Reason T o
  reason T None p = late p.0.readable (subst (λ f. Late T f None) (sym p.0.allowed) (p.1, p.2))
  reason T (Some TooLong) p = absurd p
  reason T (Some Text) p = faulty refl p.0 p.1
  reason T (Some Shape) p = shapeless refl p.0 p.1
  reason T (Some (NotChartered n)) p = late p.0 (subst (λ f. Late T f (Some (NotChartered n))) (sym p.1) refl)
  reason T (Some cause) p = late p.0.readable (subst (λ f. Late T f (Some cause)) (sym p.0.allowed) p.1)

  one-reason : (T U : Database) (o w : Option Cause) → Reason T o → Reason U w → (T ≡ U) × (o ≡ w)
  one-reason T U o w (faulty e a p) (faulty f b q) = (a ∙ sym b, e ∙ sym f)
  one-reason T U o w (faulty e a p) (shapeless f b q) = absurd (fault-or-tokens submission.text q.tokens p q.has)
  one-reason T U o w (faulty e a p) (late r l) = absurd (fault-or-tokens submission.text (tokens_of U) p r.read.tokens)
  one-reason T U o w (shapeless e a p) (faulty f b q) = absurd (fault-or-tokens submission.text p.tokens q p.has)
  one-reason T U o w (shapeless e a p) (shapeless f b q) = (a ∙ sym b, e ∙ sym f)
  one-reason T U o w (shapeless e a p) (late r l) = absurd (none-or-reading submission.text U p r.read)
  one-reason T U o w (late r l) (faulty f b q) = absurd (fault-or-tokens submission.text (tokens_of T) q r.read.tokens)
  one-reason T U o w (late r l) (shapeless f b q) = absurd (none-or-reading submission.text T q r.read)
  one-reason T U o w (late r l) (late r' m) =
      let same = one-reading submission.text T U r.read r'.read in
      (same, one-late U (first_forbidden charter submission.author U) o w (subst (λ V. Late V (first_forbidden charter submission.author V) o) same l) m)

  -- a text has at most one outcome
  one-outcome : (T U : Database) (o w : Option Cause) → IsOutcome limit L charter submission T o → IsOutcome limit L charter submission U w → (T ≡ U) × (o ≡ w)
  one-outcome T U o w p q = one-reason T U o w (reason T o p) (reason U w q)

  outcome-short : (T : Database) (o : Option Cause) → IsOutcome limit L charter submission T o → length submission.text ≤ MAX_BYTES
  outcome-short T o p = elim (reason T o p) as (λ _. length submission.text ≤ MAX_BYTES) [ faulty e a q ↦ q.short | shapeless e a q ↦ q.short | late r l ↦ r.short ]

  -- ---- what is counted before an outcome is known

  -- the counts up to the first stage are the first of those up to the second one
  abbrev IsFront : Database → Stage → Stage → Type 0
  IsFront T stage later = (rest : Counts) × (counts_to L submission.text T later ≡ counts_to L submission.text T stage ++ rest)

  abbrev bytes : Counts
  bytes = (0, length submission.text) ∷ []

  bytes-front : (T : Database) (later : Stage) → IsFront T bytes_alone later
  bytes-front T bytes_alone = ([], refl)
  bytes-front T (to_statement n) = (statement_counts L (take n T), refl)
  bytes-front T (to_proof n) = (statement_counts L T ++ proof_counts L (take n T), append_assoc bytes (statement_counts L T) (proof_counts L (take n T)))

  take-empty : (n : ℕ) → take {A = Stmt} n [] ≡ []
  take-empty zero = refl
  take-empty (suc n) = refl

  take-take : (k n : ℕ) (T : Database) → k ≤ n → take k (take n T) ≡ take k T
  take-take k n [] h = ap (take k) (take-empty n)
  take-take zero n (s ∷ T) h = take-none (take n (s ∷ T)) ∙ sym (take-none (s ∷ T))
  take-take (suc k) zero (s ∷ T) h = absurd (omega (arith, h))
  take-take (suc k) (suc n) (s ∷ T) h = ap (λ l. s ∷ l) (take-take k n T (omega (arith, h)))

  fewer-statements : (T : Database) (k n : ℕ) → k ≤ n → IsFront T (to_statement k) (to_statement n)
  fewer-statements T k n h =
      let front = counts-front statement_work (bares L) (take n T) k in
      (front.0, ap (λ cs. bytes ++ cs) (front.1 ∙ ap (λ U. statement_counts L U ++ front.0) (take-take k n T h)))

  statements-front : (T : Database) (k n : ℕ) → IsFront T (to_statement k) (to_proof n)
  statements-front T k n =
      let front = counts-front statement_work (bares L) T k in
      let proofs = proof_counts L (take n T) in
      (front.0 ++ proofs, ap (λ cs. (bytes ++ cs) ++ proofs) front.1 ∙ append_assoc (bytes ++ statement_counts L (take k T)) front.0 proofs)

  fewer-proofs : (T : Database) (k n : ℕ) → k ≤ n → IsFront T (to_proof k) (to_proof n)
  fewer-proofs T k n h =
      let front = counts-front theorem_work (bares L) (take n T) k in
      let whole = bytes ++ statement_counts L T in
      (front.0, ap (λ cs. whole ++ cs) (front.1 ∙ ap (λ U. proof_counts L U ++ front.0) (take-take k n T h)) ∙ sym (append_assoc whole (proof_counts L (take k T)) front.0))

  -- a stage that is reached is not behind that of the outcome
  module _ (T : Database) where
    no-fault : IsAllowed charter submission T → HasLexFault submission.text → ⊥
    no-fault allowed fault = fault-or-tokens submission.text (tokens_of T) fault allowed.readable.read.tokens

    no-shapeless : IsAllowed charter submission T → HasNoShape submission.text → ⊥
    no-shapeless allowed none = none-or-reading submission.text T none allowed.readable.read

    statement-reached : (n : ℕ) (o : Option Cause) → IsAllowed charter submission T → BreaksAfter n (first_broken 1 L T) → IsOutcome limit L charter submission T o
        → IsFront T (to_statement n) (stage_of T o)
    statement-reached n None allowed after p = statements-front T n (length T)
    statement-reached n (Some TooLong) allowed after p = absurd p
    statement-reached n (Some (TooCostly m)) allowed after p = absurd p.1.1
    statement-reached n (Some Text) allowed after p = absurd (no-fault allowed p.1)
    statement-reached n (Some Shape) allowed after p = absurd (no-shapeless allowed p.1)
    statement-reached n (Some (NotChartered m)) allowed after p = absurd (some-or-none (first_forbidden charter submission.author T) m p.1 allowed.allowed)
    statement-reached n (Some (Rule m rule)) allowed after p = fewer-statements T n (m - 1) (let less = after m rule p.1 in omega (arith, less))
    statement-reached n (Some (LeavesHypotheses m)) allowed after p = elim (cases_lt (length T) n) as (λ _. IsFront T (to_statement n) (to_statement (length T))) [
      | inl more ↦ ([], ap (λ U. bytes ++ statement_counts L U) (take_all (length T) T (omega arith) ∙ sym (take_all n T (omega (arith, more)))) ∙ sym (append-nil (bytes ++ statement_counts L (take n T))))
      | inr less ↦ fewer-statements T n (length T) less
    ]
    statement-reached n (Some (Proof m)) allowed after p = statements-front T n m
    statement-reached n (Some (Unfinished m)) allowed after p = statements-front T n m

    -- a `$p` that is not proved is not before one up to which all are
    not-earlier : (n m : ℕ) (s : Stmt) → ((k : ℕ) (r : Stmt) → k < n → IsProvable T k r → IsProved (L ++ T) (length L + k)) → IsFirstUnproved L T m s → n ≤ m
    not-earlier n m s proved first = elim (cases_lt m n) as (λ _. n ≤ m) [ inl less ↦ absurd (first.unproved (proved m s less first.here)) | inr more ↦ more ]

    proof-reached : (n : ℕ) (o : Option Cause) → IsAllowed charter submission T → IsReachedIn limit L T (to_proof n) → IsOutcome limit L charter submission T o
        → IsFront T (to_proof n) (stage_of T o)
    proof-reached n None allowed r p = elim (cases_lt (length T) n) as (λ _. IsFront T (to_proof n) (to_proof (length T))) [
      | inl more ↦ ([], ap (λ U. (bytes ++ statement_counts L T) ++ proof_counts L U) (take_all (length T) T (omega arith) ∙ sym (take_all n T (omega (arith, more)))) ∙ sym (append-nil (counts_to L submission.text T (to_proof n))))
      | inr less ↦ fewer-proofs T n (length T) less
    ]
    proof-reached n (Some TooLong) allowed r p = absurd p
    proof-reached n (Some (TooCostly m)) allowed r p = absurd p.1.1
    proof-reached n (Some Text) allowed r p = absurd (no-fault allowed p.1)
    proof-reached n (Some Shape) allowed r p = absurd (no-shapeless allowed p.1)
    proof-reached n (Some (NotChartered m)) allowed r p = absurd (some-or-none (first_forbidden charter submission.author T) m p.1 allowed.allowed)
    proof-reached n (Some (Rule m rule)) allowed r p = absurd (some-or-none (first_broken 1 L T) (m, rule) p.1 r.0)
    proof-reached n (Some (LeavesHypotheses m)) allowed r p = absurd (some-or-none (first_leaving limit T) m p.1.1 r.1)
    proof-reached n (Some (Proof m)) allowed r p = fewer-proofs T n m (not-earlier n m p.1.1.0 r.2 p.1.1.2)
    proof-reached n (Some (Unfinished m)) allowed r p = fewer-proofs T n m (not-earlier n m p.1.1.0 r.2 p.1.1.2)

  -- the statements of a text that is allowed are those of its outcome
  same-text : (T U : Database) (o : Option Cause) → IsAllowed charter submission T → IsOutcome limit L charter submission U o → T ≡ U
  same-text T U o allowed p = elim (reason U o p) as (λ _. T ≡ U) [
    | faulty e a q ↦ absurd (no-fault T allowed q)
    | shapeless e a q ↦ absurd (no-shapeless T allowed q)
    | late r l ↦ one-reading submission.text T U allowed.readable.read r.read
  ]

  -- where the count is past the limit before an outcome, it is past it there until the outcome
  pub past-judged : (U : Database) (o : Option Cause) (n : ℕ) → IsOutcome limit L charter submission U o → IsPastLimit limit L charter submission n
      → past_limit limit (judged_counts L submission.text U o) ≡ Some n
  past-judged U o n p h = by h.stage h.reached h.past
    where
      at : (T : Database) (stage : Stage) → T ≡ U → IsFront U stage (stage_of U o) → past_limit limit (counts_to L submission.text T stage) ≡ Some n
          → past_limit limit (judged_counts L submission.text U o) ≡ Some n
      at T stage same front past =
          subst (λ cs. past_limit limit cs ≡ Some n) (sym front.1)
          (past_limit-longer limit (counts_to L submission.text U stage) front.0 n (subst (λ V. past_limit limit (counts_to L submission.text V stage) ≡ Some n) same past))

      by : (stage : Stage) → IsReached limit L charter submission h.statements stage → past_limit limit (counts_to L submission.text h.statements stage) ≡ Some n
          → past_limit limit (judged_counts L submission.text U o) ≡ Some n
      by bytes_alone r past = at U bytes_alone refl (bytes-front U (stage_of U o)) past
      by (to_statement k) r past =
          let same = same-text h.statements U o r.0 p in
          at h.statements (to_statement k) same
          (statement-reached U k o (subst (IsAllowed charter submission) same r.0) (subst (λ V. BreaksAfter k (first_broken 1 L V)) same r.1) p) past
      by (to_proof k) r past =
          let same = same-text h.statements U o r.0 p in
          at h.statements (to_proof k) same
          (proof-reached U k o (subst (IsAllowed charter submission) same r.0) (subst (λ V. IsReachedIn limit L V (to_proof k)) same r.1) p) past

  -- the stage of an outcome is reached
  outcome-reached : (T : Database) (o : Option Cause) → IsOutcome limit L charter submission T o → IsReached limit L charter submission T (stage_of T o)
  outcome-reached T None p = (p.0, (legal-text L T p.2.legal, p.1, λ m s below q. p.2.proved (length L + m) s (provable-after L T m s q)))
  outcome-reached T (Some TooLong) p = absurd p
  outcome-reached T (Some (TooCostly m)) p = absurd p.1.1
  outcome-reached T (Some Text) p = p.1.short
  outcome-reached T (Some Shape) p = p.1.short
  outcome-reached T (Some (NotChartered m)) p = p.0.short
  outcome-reached T (Some (Rule m rule)) p = (
    p.0,
    (λ k other e. let broken : first_broken 1 L T ≡ Some (m, rule) = p.1 in
        let low = broken-number 1 L T m rule broken in
        let pair = some-same broken e in
        let same : m ≡ k = ap (λ (j : ℕ × BrokenRule). j.0) pair in
        omega (arith, low, same)),
  )
  outcome-reached T (Some (LeavesHypotheses m)) p = (p.0, (λ k rule e. absurd (some-or-none (first_broken 1 L T) (k, rule) e p.1.0)))
  outcome-reached T (Some (Proof m)) p = (p.0, (p.1.1.1, p.1.0, p.1.1.2.earlier))
  outcome-reached T (Some (Unfinished m)) p = (p.0, (p.1.1.1, p.1.0, p.1.1.2.earlier))

  pub past-outcome : (T : Database) (o : Option Cause) (n : ℕ) → IsOutcome limit L charter submission T o → past_limit limit (judged_counts L submission.text T o) ≡ Some n
      → IsPastLimit limit L charter submission n
  past-outcome T o n p past = record { statements = T; stage = stage_of T o; reached = outcome-reached T o p; past = past }

  -- ---- one verdict

  -- the meaning of a verdict on a text
  abbrev pub IsVerdict : Verdict → Type 0
  IsVerdict Added = (T : Database) × IsJudgedTo limit L charter submission T None
  IsVerdict (Refused cause) = IsCause limit L charter submission cause
  IsVerdict verdict = ⊥

  -- the verdict of an outcome
  abbrev verdict_by : Option Cause → Verdict
  verdict_by None = Added
  verdict_by (Some cause) = Refused cause

  data Ground (v : Verdict) : Type 0 where
    too_long : v ≡ Refused TooLong → MAX_BYTES < length submission.text → Ground v
    too_costly : (n : ℕ) → v ≡ Refused (TooCostly n) → IsPastLimit limit L charter submission n → Ground v
    judged : (T : Database) (o : Option Cause) → v ≡ verdict_by o → IsJudgedTo limit L charter submission T o → Ground v

  ground : (v : Verdict) → IsVerdict v → Ground v
  ground Added p = judged p.0 None refl p.1
  ground (Refused TooLong) p = too_long refl p
  ground (Refused (TooCostly n)) p = too_costly n refl p
  ground (Refused cause) p = judged p.0 (Some cause) refl p.1
  ground v p = absurd p

  reached-short : (T : Database) (stage : Stage) → IsReached limit L charter submission T stage → length submission.text ≤ MAX_BYTES
  reached-short T bytes_alone r = r
  reached-short T (to_statement n) r = r.0.readable.short
  reached-short T (to_proof n) r = r.0.readable.short

  long-or-short : {A : Type 0} → MAX_BYTES < length submission.text → length submission.text ≤ MAX_BYTES → A
  long-or-short p q = absurd (omega (arith, p, q))

  past-or-not : {A : Type 0} (T : Database) (o : Option Cause) (n : ℕ) → IsPastLimit limit L charter submission n → IsJudgedTo limit L charter submission T o → A
  past-or-not T o n p j = absurd (some-or-none (past_limit limit (judged_counts L submission.text T o)) n (past-judged T o n j.outcome_is p) j.within)

  -- two stages of one text, or of the bytes: where both are past the limit, they are so with the
  -- same statement
  whole-front : (T : Database) (stage : Stage) → IsFront T stage (to_proof (length T))
  whole-front T bytes_alone = bytes-front T (to_proof (length T))
  whole-front T (to_statement n) = statements-front T n (length T)
  whole-front T (to_proof n) = elim (cases_lt (length T) n) as (λ _. IsFront T (to_proof n) (to_proof (length T))) [
    | inl more ↦ ([], ap (λ U. (bytes ++ statement_counts L T) ++ proof_counts L U) (take_all (length T) T (omega arith) ∙ sym (take_all n T (omega (arith, more)))) ∙ sym (append-nil (counts_to L submission.text T (to_proof n))))
    | inr less ↦ fewer-proofs T n (length T) less
  ]

  whole-past : (T : Database) (stage : Stage) (n : ℕ) → past_limit limit (counts_to L submission.text T stage) ≡ Some n
      → past_limit limit (counts_to L submission.text T (to_proof (length T))) ≡ Some n
  whole-past T stage n past =
      let front = whole-front T stage in
      subst (λ cs. past_limit limit cs ≡ Some n) (sym front.1) (past_limit-longer limit (counts_to L submission.text T stage) front.0 n past)

  one-past : (m n : ℕ) → IsPastLimit limit L charter submission m → IsPastLimit limit L charter submission n → m ≡ n
  one-past m n p q = by p.statements q.statements p.stage q.stage p.reached q.reached p.past q.past
    where
      both : (T : Database) (s t : Stage) → past_limit limit (counts_to L submission.text T s) ≡ Some m → past_limit limit (counts_to L submission.text T t) ≡ Some n → m ≡ n
      both T s t a b = some-same (whole-past T s m a) (whole-past T t n b)

      alike : (T U : Database) (s t : Stage) → T ≡ U → past_limit limit (counts_to L submission.text T s) ≡ Some m → past_limit limit (counts_to L submission.text U t) ≡ Some n → m ≡ n
      alike T U s t same a b = both U s t (subst (λ V. past_limit limit (counts_to L submission.text V s) ≡ Some m) same a) b

      by : (T U : Database) (s t : Stage) → IsReached limit L charter submission T s → IsReached limit L charter submission U t
          → past_limit limit (counts_to L submission.text T s) ≡ Some m → past_limit limit (counts_to L submission.text U t) ≡ Some n → m ≡ n
      by T U bytes_alone t r r' a b = both U bytes_alone t a b
      by T U s bytes_alone r r' a b = both T s bytes_alone a b
      by T U (to_statement k) (to_statement i) r r' a b = alike T U (to_statement k) (to_statement i) (one-reading submission.text T U r.0.readable.read r'.0.readable.read) a b
      by T U (to_statement k) (to_proof i) r r' a b = alike T U (to_statement k) (to_proof i) (one-reading submission.text T U r.0.readable.read r'.0.readable.read) a b
      by T U (to_proof k) (to_statement i) r r' a b = alike T U (to_proof k) (to_statement i) (one-reading submission.text T U r.0.readable.read r'.0.readable.read) a b
      by T U (to_proof k) (to_proof i) r r' a b = alike T U (to_proof k) (to_proof i) (one-reading submission.text T U r.0.readable.read r'.0.readable.read) a b

  one-ground : (v w : Verdict) → Ground v → Ground w → v ≡ w
  one-ground v w (too_long e p) (too_long f q) = e ∙ sym f
  one-ground v w (too_long e p) (too_costly n f q) = long-or-short p (reached-short q.statements q.stage q.reached)
  one-ground v w (too_long e p) (judged T o f j) = long-or-short p (outcome-short T o j.outcome_is)
  one-ground v w (too_costly n e p) (too_long f q) = long-or-short q (reached-short p.statements p.stage p.reached)
  one-ground v w (too_costly m e p) (too_costly n f q) = e ∙ (ap (λ k. Refused (TooCostly k)) (one-past m n p q) ∙ sym f)
  one-ground v w (too_costly n e p) (judged T o f j) = past-or-not T o n p j
  one-ground v w (judged T o e i) (too_long f q) = long-or-short q (outcome-short T o i.outcome_is)
  one-ground v w (judged T o e i) (too_costly n f q) = past-or-not T o n q i
  one-ground v w (judged T o e i) (judged U u f j) = e ∙ (ap verdict_by (one-outcome T U o u i.outcome_is j.outcome_is).1 ∙ sym f)

  -- a text has at most one verdict
  pub one-verdict : (v w : Verdict) → IsVerdict v → IsVerdict w → v ≡ w
  one-verdict v w p q = one-ground v w (ground v p) (ground w q)
