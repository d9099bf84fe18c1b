-- Verdicts on small texts.
use Rattle.library.proofs.Words.{◌≡◌, ℕ, zero, suc, ◌+◌, ◌<◌, true, false, List, [], ◌∷◌, ◌++◌, codes, refl, length, Some, None, list_all, true≢false, sym, ◌∙◌, ap, arith, inl, inr, lit≤, append-nil, Name, is_allowed, runs, word, Stmt, Const, Var, Axiom, Ess, Prove, Database, AreShaped, tokens_of, Reads, proof_of, stmt_at, is_provable, G4, Writes, is_unfinished, IsProvable, Submission, Text, Charter, Rule, Unfinished, NotChartered, Added, Nothing, Repeat, Refused, is_rising, first_forbidden, IsProved, IsCause, ReplicaState, empty, Applies, is_plain, words, w, some-same}
use Rattle.library.specs.declared.verdict.Cause.TheVariants.{LeavesHypotheses, TooCostly}
use Rattle.library.specs.Work.{bytes_alone, to_statement}
use Rattle.library.proofs.LibraryLemmas.{good-empty}

-- a text without comments reads as statements if its words are their tokens
plain_reads : (text : List ℕ) (T : Database) → AreShaped T → list_all is_allowed text ≡ true → list_all (λ s. is_plain (word text s)) (runs text) ≡ true → words text (runs text) ≡ tokens_of T → Reads text T
plain_reads text T shaped clean plain same = record {
  shaped = shaped;
  tokens = (runs text, (clean, record { first = runs text; parts = []; whole = sym (append-nil (runs text)); plain = plain; comments = tt; outside = sym (append-nil (runs text)) }), same);
}

abbrev by_author : ℕ → List ℕ → Submission
by_author author text = record { author = author; serial = 1; text = text }

-- ---- causes

abbrev taken_twice : Database
taken_twice = Const (w (codes "|-")) ∷ Axiom (codes "p") (w (codes "|-")) ∷ Axiom (codes "p") (w (codes "|-")) ∷ []

-- a label that is used twice breaks G4 at the second statement that has it
label_taken : IsCause None [] None (by_author 7 (codes "$c |- $. p $a |- $. p $a |- $.")) (Rule 3 G4)
label_taken = (taken_twice, record { outcome_is = (record { readable = record { short = lit≤ tt; read = plain_reads _ taken_twice refl refl refl refl }; allowed = refl }, refl); within = refl })

-- under a charter, the same text by an author that it does not name is refused for its first `$c`
not_chartered : IsCause None [] (Some (7 ∷ [])) (by_author 8 (codes "$c |- $. p $a |- $. p $a |- $.")) (NotChartered 1)
not_chartered = (taken_twice, record { outcome_is = (record { short = lit≤ tt; read = plain_reads _ taken_twice refl refl refl refl }, refl); within = refl })

abbrev doubted : Database
doubted = Const (w (codes "|- o")) ∷ Prove (codes "th") (w (codes "|- o")) (w (codes "?")) ∷ []

-- tokens that write items have no byte `?`
writes_finished : (tokens mandatory : List Name) (items : _) → Writes tokens mandatory items → is_unfinished tokens ≡ false
writes_finished tokens mandatory items h = elim h [ inl p ↦ p.1.0 | inr p ↦ p.1.0 ]

-- a `$p` with `?` for its proof is not proved
not_proved : IsProved doubted 2 → ⊥
not_proved p = true≢false (ap (λ s. is_unfinished (proof_of s)) (some-same {o = stmt_at doubted 2} refl p.provable.stands) ∙ writes_finished _ _ _ p.written)

-- a text with such a `$p` is refused as unfinished, with the number of the `$p` in the text
unfinished : IsCause None [] None (by_author 7 (codes "$c |- o $. th $p |- o $= ? $.")) (Unfinished 2)
unfinished = (
  doubted,
  record {
    outcome_is = (
      record { readable = record { short = lit≤ tt; read = plain_reads _ doubted refl refl refl refl }; allowed = refl },
      (refl, (Prove (codes "th") (w (codes "|- o")) (w (codes "?")), refl, record { here = record { stands = refl; provable = refl }; unproved = not_proved; earlier = earlier }, refl)),
    );
    within = refl;
  },
)
  where
    earlier : (m : ℕ) (r : Stmt) → m < 2 → IsProvable doubted m r → IsProved ([] ++ doubted) (length {A = Stmt} [] + m)
    earlier zero r below p = absurd (let e = p.stands in cc)
    earlier (suc zero) r below p = absurd (true≢false (sym p.provable ∙ ap is_provable (some-same {o = stmt_at doubted 1} p.stands refl)))
    earlier (suc (suc m)) r below p = absurd (omega (arith, below))

-- ---- causes under a limit

-- eight bytes are past a limit of 7, whatever they are
bytes_too_costly : IsCause (Some 7) [] None (by_author 7 (codes "$c o $. ")) (TooCostly 0)
bytes_too_costly = record { statements = []; stage = bytes_alone; reached = lit≤ tt; past = refl }

abbrev two_symbols : Database
two_symbols = Const (w (codes "|- o")) ∷ Axiom (codes "p") (w (codes "|-")) ∷ []

-- 23 bytes, 128 for two symbols, and 65 for the assertion
statement_too_costly : IsCause (Some 215) [] None (by_author 7 (codes "$c |- o $. p $a |- $.  ")) (TooCostly 2)
statement_too_costly = record {
  statements = two_symbols;
  stage = to_statement 2;
  reached = (record { readable = record { short = lit≤ tt; read = plain_reads _ two_symbols refl refl refl refl }; allowed = refl }, λ m rule e. absurd (let f = e in cc));
  past = refl;
}

abbrev left_active : Database
left_active = Const (w (codes "|-")) ∷ Ess (codes "h") (w (codes "|-")) ∷ []

-- a `$e` outside all blocks is refused under a limit
hypothesis_left : IsCause (Some 1000) [] None (by_author 7 (codes "$c |- $. h $e |- $.")) (LeavesHypotheses 2)
hypothesis_left = (
  left_active,
  record { outcome_is = (record { readable = record { short = lit≤ tt; read = plain_reads _ left_active refl refl refl refl }; allowed = refl }, (refl, refl)); within = refl },
)

-- ---- verdicts

abbrev one_charter : ReplicaState
one_charter = record { statements = []; decided = record { author = 7; serial = 2; verdict = Added } ∷ []; charter = Some (7 ∷ 9 ∷ []); limit = None }

-- the empty text is added, and adds no statement
empty_text_added : Applies (empty None) (Some (Text (by_author 7 []))) Added (record { statements = []; decided = record { author = 7; serial = 1; verdict = Added } ∷ []; charter = None; limit = None })
empty_text_added = ([], record { outcome_is = (record { readable = record { short = lit≤ tt; read = plain_reads [] [] refl refl refl refl }; allowed = refl }, refl, good-empty); within = refl }, refl)

-- the first charter is accepted from any author
first_charter : Applies (empty None) (Some (Charter 7 2 (7 ∷ 9 ∷ []))) Added one_charter
first_charter = (refl, refl)

-- after that, a charter by an author that it does not name is refused
other_charter_refused : Applies one_charter (Some (Charter 8 1 (8 ∷ []))) (Refused (NotChartered 0))
    (record one_charter { decided = one_charter.decided ++ record { author = 8; serial = 1; verdict = Refused (NotChartered 0) } ∷ [] })
other_charter_refused = (refl, refl, refl)

-- a charter by an author that it names is accepted
named_charter_added : Applies one_charter (Some (Charter 9 1 (8 ∷ []))) Added
    (record { statements = []; decided = one_charter.decided ++ record { author = 9; serial = 1; verdict = Added } ∷ []; charter = Some (8 ∷ []); limit = None })
named_charter_added = (refl, refl)

-- an author's number is decided once, for texts and charters together
repeated_number : Applies one_charter (Some (Charter 7 2 (8 ∷ []))) Repeat one_charter
repeated_number = (refl, refl)

-- a text with the number of a charter by the same author is a repeat
repeated_text : Applies one_charter (Some (Text (record { author = 7; serial = 2; text = codes "$c a $." }))) Repeat one_charter
repeated_text = (refl, refl)

-- an entry without an operation changes nothing
no_operation : Applies one_charter None Nothing one_charter
no_operation = (refl, refl)

-- ---- charters

-- authors in rising order
rising : is_rising (1 ∷ 5 ∷ 6 ∷ []) ≡ true
rising = refl

-- authors are not in rising order if one occurs twice
twice_the_same : is_rising (1 ∷ 5 ∷ 5 ∷ []) ≡ false
twice_the_same = refl

-- nothing is forbidden to an author whom the charter names
named_author : first_forbidden (Some (7 ∷ 9 ∷ [])) 9 taken_twice ≡ None
named_author = refl

-- without a charter nothing is forbidden to anyone
no_charter : first_forbidden None 8 taken_twice ≡ None
no_charter = refl

-- variables and theorems are forbidden to no author
variables_and_proofs : first_forbidden (Some (7 ∷ [])) 8 (Var (w (codes "x")) ∷ Prove (codes "th") (w (codes "|- o")) (w (codes "?")) ∷ []) ≡ None
variables_and_proofs = refl

-- a forbidden `$a` is reported by its number in the text
second_statement : first_forbidden (Some (7 ∷ [])) 8 (Var (w (codes "x")) ∷ Axiom (codes "p") (w (codes "|-")) ∷ []) ≡ Some 2
second_statement = refl
