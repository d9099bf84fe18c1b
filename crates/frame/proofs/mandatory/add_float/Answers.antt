use Rattle.frame.proofs.Words.{◌-◌, ◌∙◌, sym, arith, inl, refl, take, true≢false, IsLastFloat}
use Rattle.frame.proofs.CollectLemmas.{float-stands, float-more}
use Rattle.frame.proofs.FloatLemmas.{floats-found, last-found, none-found}
use Rattle.frame.proofs.mandatory.add_float.Goals as goal
use Rattle.frame.proofs.mandatory.add_float.Goals.{In-Some}

last : (c : In-Some) → IsLastFloat c.args.code 1 (take (c.args.at - 1) c.args.storage.now.entries) c.in-Some.float.position
last c =
    let k = c.args.storage.now in let one = c.requires.place.0 in
    last-found c.args.code 1 (take (c.args.at - 1) k.entries) c.in-Some.ensures.some.0 c.in-Some.float
    (sym (floats-found k.entries k.floats c.args.code c.args.at (c.args.at - 1) c.stack.result c.requires.stored.floats (omega (arith, one)) c.stack.ensures.before) ∙ c.in-Some.ensures.some.1)

pub returns-in_default : goal.returns-in_default
returns-in_default c =
    let k = c.args.storage.now in let i = c.args.at - 1 in let one = c.requires.place.0 in
    let none = sym (floats-found k.entries k.floats c.args.code c.args.at i c.stack.result c.requires.stored.floats (omega (arith, one)) c.stack.ensures.before) ∙ c.in_default.ensures.none in
    record { stays = λ p j. j; all = λ p f. absurd (true≢false (sym f.last.passes ∙ none-found c.args.code 1 (take i k.entries) none f.last.place f.last.entry f.last.found)); only = λ p j. inl j }

pub is_active_at-requires-clause-place : goal.is_active_at-requires-clause-place
is_active_at-requires-clause-place c =
    let n = c.requires.place in let one = n.0 in
    let f = float-stands c.args.storage.now (c.args.at - 1) c.args.code _ (last (goal.at.is_active_at-requires-clause-place c).In-Some) in let low = f.1 in (f.0, omega (arith, one, low), n.1)

pub is_active_at-requires-clause-plain : goal.is_active_at-requires-clause-plain
is_active_at-requires-clause-plain c = (float-stands c.args.storage.now (c.args.at - 1) c.args.code _ (last (goal.at.is_active_at-requires-clause-plain c).In-Some)).2

pub returns-in_ok-push : goal.returns-in_ok-push
returns-in_ok-push c =
    float-more c.args.storage.now c.args.code c.in-Some.float.position c.args.at c.args.list.now.items c.push.new.self.items _ c.requires.place.1 (last (goal.at.returns-in_ok-push c).In-Some)
    (sym c.if-is_active_at.true ∙ c.is_active_at.ensures) c.in_ok-push.ensures.items

pub returns-else-is_active_at : goal.returns-else-is_active_at
returns-else-is_active_at c =
    float-more c.args.storage.now c.args.code c.in-Some.float.position c.args.at c.args.list.now.items c.args.list.now.items _ c.requires.place.1 (last (goal.at.returns-else-is_active_at c).In-Some)
    (sym c.if-is_active_at.false ∙ c.is_active_at.ensures) refl
