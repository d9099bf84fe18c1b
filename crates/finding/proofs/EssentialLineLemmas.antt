-- The mandatory `$e` of an assertion, one after another.
use Rattle.finding.proofs.LineWords.{◌≡◌, ℕ, Bool, true, List, ◌∷◌, ◌++◌, Some, refl, ap, sym, ◌∙◌, ◌+◌, append_assoc, option_map, Result, Ok, Err, OnOk, expr_end, label_start, line_with_essentials, Stmt, Prove, Database, bare, bares, before, is_assertion, stmt_at, stmt_at-bares, hypotheses, essential_at, listed_essential, listed_essentials, is_still_first}
use Rattle.frame.specs.FrameOf.{HasAssertion}

-- a frame does not depend on the proof
pub hypotheses-bare : (S : Database) (s : Stmt) → hypotheses S (bare s) ≡ hypotheses S s
hypotheses-bare S (Prove label expr proof) = refl
hypotheses-bare S s = refl

assertion-bare : (s : Stmt) → is_assertion (bare s) ≡ is_assertion s
assertion-bare (Prove label expr proof) = refl
assertion-bare s = refl

-- the statement without its proof is at the same position among the frames
pub stands_bare : (S F : Database) (at : ℕ) (s : Stmt) → F ≡ bares S → stmt_at S at ≡ Some s → stmt_at F at ≡ Some (bare s)
stands_bare S F at s same stands = ap (λ T. stmt_at T at) same ∙ (stmt_at-bares S at ∙ ap (option_map bare) stands)

pub has_assertion : (S F : Database) (at : ℕ) (s : Stmt) → F ≡ bares S → stmt_at S at ≡ Some s → is_assertion s ≡ true → HasAssertion F at (bare s)
has_assertion S F at s same stands is = (stands_bare S F at s same stands, assertion-bare s ∙ is)

-- the hypotheses among the frames are those of the database
pub hypotheses_are : (S F : Database) (at : ℕ) (s : Stmt) (positions : List ℕ) → F ≡ bares S → positions ≡ hypotheses (before F at) (bare s) → positions ≡ hypotheses (before (bares S) at) s
hypotheses_are S F at s positions same are = are ∙ (hypotheses-bare (before F at) s ∙ ap (λ T. hypotheses (before T at) s) same)

-- one more position
pub essentials_on : (S : Database) (first next : Bool) (position : ℕ) (others rest lines new whole : List ℕ) → rest ≡ position ∷ others
    → lines ++ listed_essentials S first rest ≡ whole → new ≡ lines ++ listed_essential first (essential_at S position)
    → next ≡ is_still_first first (essential_at S position) → new ++ listed_essentials S next others ≡ whole
essentials_on S first next position others rest lines new whole is inv added step =
    ap (λ l. l ++ listed_essentials S next others) added
    ∙ (append_assoc lines (listed_essential first (essential_at S position)) (listed_essentials S next others)
    ∙ (ap (λ b. lines ++ (listed_essential first (essential_at S position) ++ listed_essentials S b others)) step
    ∙ (ap (λ r. lines ++ listed_essentials S first r) (sym is) ∙ inv)))

-- a consequence of an answer's property holds of the answer
pub on_ok : {T E P Q : Type 0} (r : Result T E) → (P → Q) → OnOk r P → OnOk r Q
on_ok (Ok v) f p = f p
on_ok (Err e) f p = tt

-- the line of an assertion: its label, its `$e` and its expression
pub line_is : (S : Database) (index : ℕ) (s : Stmt) (positions old first second new : List ℕ) → positions ≡ hypotheses (before (bares S) (index + 1)) s
    → first ≡ old ++ label_start s → second ≡ first ++ listed_essentials S true positions → new ≡ second ++ expr_end s → new ≡ old ++ line_with_essentials S index s
line_is S index s positions old first second new are a b c =
    c ∙ (ap (λ l. l ++ expr_end s) (b ∙ (ap (λ l. l ++ listed_essentials S true positions) a ∙ append_assoc old (label_start s) (listed_essentials S true positions)))
    ∙ (append_assoc old (label_start s ++ listed_essentials S true positions) (expr_end s)
    ∙ ap (λ ps. old ++ ((label_start s ++ listed_essentials S true ps) ++ expr_end s)) are))
