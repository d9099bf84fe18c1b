use Rattle.library.proofs.Words.{◌≡◌, ℕ, ◌+◌, ◌<◌, [], ◌∷◌, ◌++◌, length, take, get_or, List, refl, sym, ◌∙◌, ap, append-nil, arith, take_all, take_more, Name, Stmt, Axiom, Prove, Database, listed, listed_of, filter_map-append, Listed}
use Rattle.library.proofs.library.Library.list.Goals as goal
use Rattle.library.proofs.library.Library.list.Goals.{in-Axiom+in_ok-copy-in-Axiom, in-Prove+in_ok-copy-in-Prove}

-- the assertions of the first i statements, with that of the next one
more : (S : Database) (i : ℕ) (s : Stmt) (old new : List Listed) → i < length S → s ≡ get_or S i s → old ≡ listed (take i S) → new ≡ old ++ listed (s ∷ []) → new ≡ listed (take (i + 1) S)
more S i s old new less is before after =
    after ∙ (ap (λ list. list ++ listed (s ∷ [])) before ∙ sym (ap listed (take_more S i s less ∙ ap (λ r. take i S ++ r ∷ []) (sym is)) ∙ filter_map-append listed_of (take i S) (s ∷ [])))

-- a statement that is no assertion adds nothing
no-assertion : (s : Stmt) → ((label : Name) (expr : List Name) → s ≡ Axiom label expr → ⊥) → ((label : Name) (expr proof : List Name) → s ≡ Prove label expr proof → ⊥) → listed (s ∷ []) ≡ []
no-assertion (Axiom label expr) other provable = absurd (other label expr refl)
no-assertion (Prove label expr proof) other provable = absurd (provable label expr proof refl)
no-assertion s other provable = refl

pub loop-statement-preserved : goal.loop-statement-preserved
loop-statement-preserved c =
    let s = c.statement-item.result in
    let one : listed (s ∷ []) ≡ record { label = c.match-statement.label.0; proved = c.match-statement.label.1 } ∷ [] = elim c.match-statement.branch [
      | in-Axiom+in_ok-copy-in-Axiom w ↦ rw (w.label-is, w.in_ok-copy-in-Axiom.ensures) (ap (λ t. listed (t ∷ [])) w.in-Axiom.is)
      | in-Prove+in_ok-copy-in-Prove w ↦ rw (w.label-is, w.in_ok-copy-in-Prove.ensures) (ap (λ t. listed (t ∷ [])) w.in-Prove.is)
    ] in
    more _ _ s _ _ c.loop-statement-test.true c.statement-item.is c.loop-statement.invariant (c.in_ok-push.ensures.items ∙ ap (λ r. c.loop-statement.list.items ++ r) (sym one))

pub loop-statement-preserved-in_default : goal.loop-statement-preserved-in_default
loop-statement-preserved-in_default c =
    let none = no-assertion c.statement-item.result c.in_default.not-Axiom c.in_default.not-Prove in
    more _ _ _ c.loop-statement.list.items _ c.loop-statement-test.true c.statement-item.is c.loop-statement.invariant (sym (ap (λ r. c.loop-statement.list.items ++ r) none ∙ append-nil c.loop-statement.list.items))

pub returns : goal.returns
returns c =
    let all : take c.loop-statement.statement-index c.statements-statement-items.result.now ≡ c.statements-statement-items.result.now = take_all _ _ (omega (arith, c.loop-statement-test.false)) in
    c.loop-statement.invariant ∙ (ap listed all ∙ ap listed c.statements-statement-items.ensures.statements)
