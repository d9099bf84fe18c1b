use Rattle.std.proofs.Common.{◌≡◌, true, ap, ◌∙◌, sym, subst}
use Rattle.nodes.specs.Moments.{lock_of}
use Rattle.nodes.specs.Account.{AccountView, Records}
use Rattle.nodes.proofs.AccountLemmas.{account_adds, account_records}
use Rattle.nodes.proofs.account.Account.add.Goals as goal

pub invariant_of-self-2 : goal.invariant_of-self-2
invariant_of-self-2 g c =
    let belongs : c.self.inside.belongs ≡ true = cc in
    let lock : lock_of (g.M.Plain.ask c.args.about.now) ≡ c.self.inside.word.key = c.requires.own (ap (λ (a : AccountView). a.belongs) (sym c.self.view_is) ∙ belongs) ∙ ap (λ (a : AccountView). a.lock) (sym c.self.view_is) in
    rw c.again.ensures.same (account_adds g.J.Naming.book c.self.inside.word c.self.inside.count c.self.inside.belongs c.self.inside.front c.learn.new.self (g.M.Plain.ask c.args.about.now) c.add.new.self
    c.self.invariant c.learn.ensures.that c.if-not-add.ensures.added lock c.if-not-add.ensures.run)

pub returns-clause-recorded : goal.returns-clause-recorded
returns-clause-recorded g c b =
    subst (λ (a : AccountView). Records a (record { lock = c.self.inside.word.key; belongs = c.self.inside.belongs; history = c.again.result }) c.args.front.now c.add.new.self (g.M.Plain.ask c.args.about.now)) c.self.view_is
    (account_records g.J.Naming.book c.self.inside.word c.self.inside.count c.self.inside.belongs c.self.inside.front c.learn.new.self (g.M.Plain.ask c.args.about.now) c.add.new.self
    c.self.invariant c.learn.ensures.that c.if-not-add.ensures.added b c.args.front.now c.learn.ensures.this c.again.result c.again.ensures.same)
