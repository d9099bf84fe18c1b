use Rattle.frame.proofs.Words.{Extends, [], ◌∙◌, sym, append-nil}
use Rattle.frame.proofs.declare.declare_next.Goals as goal

pub returns-in_ok-push-clause-grown : goal.returns-in_ok-push-clause-grown
returns-in_ok-push-clause-grown c = let positions : Extends c.args.storage.now.positions.items c.push.new.self.items = (_, c.in_ok-push.ensures.items) in search

pub returns-in_err-push-clause-grown : goal.returns-in_err-push-clause-grown
returns-in_err-push-clause-grown c = let positions : Extends c.args.storage.now.positions.items c.push.new.self.items = ([], c.in_err-push.ensures.items ∙ sym (append-nil _)) in search
