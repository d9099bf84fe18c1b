-- Words of a description, and items of a text, one after another.
use Rattle.std.specs.Prelude.{◌≡◌, ℕ, ◌≤◌, Bool, true, false, if◌then◌else◌, List, [], ◌∷◌, ◌++◌, map, Option, Some, None, IfSome, Result, Ok, Err, OnOk, codes}
use Rattle.std.proofs.Common.{ap, sym, ◌∙◌, append_assoc, arith}
use Rattle.mm_lex.specs.Alphabet.{Name, name_eq, word}
use Rattle.mm_lex.specs.Comments.{runs_after}
use Rattle.mm_lex.specs.declared.span.Span.{Span}
use Rattle.markup.specs.Roles.{role_of, role_html, first_or_space, state_after, word_html, state_after_word}
use Rattle.markup.specs.Descriptions.{run_html, runs_html, state_after_run, end_html}
use Rattle.markup.specs.IndexItems.{Item, items_from, items_of_run, walk_after_run, comment_after}
use Rattle.markup.specs.declared.byte_roles.State.{State}
use Rattle.markup.specs.declared.byte_roles.ByteRole.{ByteRole}
use Rattle.markup.specs.declared.items.Walk.{Walk}

-- a consequence of an answer's property holds of the answer
pub on_ok : {T E P Q : Type 0} (r : Result T E) → (P → Q) → OnOk r P → OnOk r Q
on_ok (Ok v) f p = f p
on_ok (Err e) f p = tt

-- one more byte of a word
pub word_on : (state next : State) (before b after : ℕ) (role : ByteRole) (tail rest page new whole : List ℕ) → rest ≡ b ∷ tail → page ++ word_html state before rest ≡ whole
    → after ≡ first_or_space tail → role ≡ role_of state before b after → new ≡ page ++ role_html role b → next ≡ state_after state role
    → new ++ word_html next b tail ≡ whole
word_on state next before b after role tail rest page new whole is inv first role_is added step =
    let same : role ≡ role_of state before b (first_or_space tail) = role_is ∙ ap (role_of state before b) first in
    ap (λ l. l ++ word_html next b tail) added
    ∙ (append_assoc page (role_html role b) (word_html next b tail)
    ∙ (ap (λ s. page ++ (role_html role b ++ word_html s b tail)) step
    ∙ (ap (λ r. page ++ (role_html r b ++ word_html (state_after state r) b tail)) same
    ∙ (ap (λ r. page ++ word_html state before r) (sym is) ∙ inv))))

-- the state after one more byte
pub word_state_on : (state next end : State) (before b after : ℕ) (role : ByteRole) (tail rest : List ℕ) → rest ≡ b ∷ tail → state_after_word state before rest ≡ end
    → after ≡ first_or_space tail → role ≡ role_of state before b after → next ≡ state_after state role → state_after_word next b tail ≡ end
word_state_on state next end before b after role tail rest is inv first role_is step =
    let same : role ≡ role_of state before b (first_or_space tail) = role_is ∙ ap (role_of state before b) first in
    ap (λ s. state_after_word s b tail) step
    ∙ (ap (λ r. state_after_word (state_after state r) b tail) same ∙ (ap (λ r. state_after_word state before r) (sym is) ∙ inv))

-- one more word of a description
pub run_on : (page_of : Name → Option ℕ) (text : List ℕ) (state next : State) (at : ℕ) (run : Span) (page new whole : List ℕ)
    → page ++ runs_html page_of state (map (word text) (runs_after text at)) ≡ whole → runs_after text at ≡ run ∷ runs_after text run.end
    → new ≡ page ++ run_html page_of state (word text run) → next ≡ state_after_run state (word text run)
    → new ++ runs_html page_of next (map (word text) (runs_after text run.end)) ≡ whole
run_on page_of text state next at run page new whole inv runs_are added step =
    ap (λ l. l ++ runs_html page_of next (map (word text) (runs_after text run.end))) added
    ∙ (append_assoc page (run_html page_of state (word text run)) (runs_html page_of next (map (word text) (runs_after text run.end)))
    ∙ (ap (λ s. page ++ (run_html page_of state (word text run) ++ runs_html page_of s (map (word text) (runs_after text run.end)))) step
    ∙ (ap (λ spans. page ++ runs_html page_of state (map (word text) spans)) (sym runs_are) ∙ inv)))

-- the end of a description
pub run_end : (page_of : Name → Option ℕ) (text : List ℕ) (state : State) (at : ℕ) (page new whole : List ℕ)
    → page ++ runs_html page_of state (map (word text) (runs_after text at)) ≡ whole → runs_after text at ≡ [] → new ≡ page ++ end_html state → new ≡ whole
run_end page_of text state at page new whole inv none added =
    added ∙ (ap (λ spans. page ++ runs_html page_of state (map (word text) spans)) (sym none) ∙ inv)

-- the items of one more run
pub items_on : (text : List ℕ) (walk next : Walk) (at : ℕ) (run : Span) (list new whole : List Item)
    → list ++ items_from text walk (runs_after text at) ≡ whole → runs_after text at ≡ run ∷ runs_after text run.end
    → new ≡ list ++ items_of_run text walk run → next ≡ walk_after_run walk (word text run) run
    → new ++ items_from text next (runs_after text run.end) ≡ whole
items_on text walk next at run list new whole inv runs_are added step =
    ap (λ l. l ++ items_from text next (runs_after text run.end)) added
    ∙ (append_assoc list (items_of_run text walk run) (items_from text next (runs_after text run.end))
    ∙ (ap (λ w. list ++ (items_of_run text walk run ++ items_from text w (runs_after text run.end))) step
    ∙ (ap (λ spans. list ++ items_from text walk spans) (sym runs_are) ∙ inv)))

-- no items are left
pub items_end : (text : List ℕ) (walk : Walk) (at : ℕ) (list whole : List Item)
    → list ++ items_from text walk (runs_after text at) ≡ whole → runs_after text at ≡ [] → list ++ [] ≡ whole
items_end text walk at list whole inv none = ap (λ spans. list ++ items_from text walk spans) (sym none) ∙ inv

-- the comment after a run begins at or before its end
pub comment_on : (comment : Option ℕ) (w : Name) (run : Span) (at : ℕ) → at ≤ run.end → IfSome comment (λ s. s ≤ at) → IfSome (comment_after comment w run) (λ s. s ≤ run.end)
comment_on (Some start) w run at le h = by (name_eq w (codes "$)"))
  where
    by : (t : Bool) → IfSome (if t then None else Some start) (λ s. s ≤ run.end)
    by true = tt
    by false = omega (arith, h, le)
comment_on None w run at le h = by (name_eq w (codes "$("))
  where
    by : (t : Bool) → IfSome (if t then Some run.end else None) (λ s. s ≤ run.end)
    by true = omega arith
    by false = tt

-- the comment before a run begins before it
pub comment_before : (comment : Option ℕ) (at start : ℕ) → at ≤ start → IfSome comment (λ s. s ≤ at) → IfSome comment (λ s. s ≤ start)
comment_before None at start le h = tt
comment_before (Some s) at start le h = omega (arith, h, le)
