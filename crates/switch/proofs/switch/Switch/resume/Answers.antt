use Rattle.switch.proofs.Words.{refl, sym, ◌∙◌, length-map, count_shown}
use Rattle.switch.proofs.ResumeLemmas.{resumed_counts, resumes, is_resumed}
use Rattle.switch.proofs.switch.Switch.resume.Goals as goal

pub resume-requires : goal.resume-requires
resume-requires g c =
    sym (length-map c.in_ok-records.records.items (λ r. r.kept)) ∙ (resumed_counts g.K.Keep.kept g.K.Keep.failures c.args.keeps.items _ _ c.in_ok-records.ensures).0 ∙ c.requires

pub invariant_of-result : goal.invariant_of-result
invariant_of-result g c =
    resumes g.V.Value.bytes g.K.Keep.kept g.K.Keep.failures c.in_ok-net.net c.args.weights c.args.event_limit c.args.keeps.items c.in_ok-records.records.items c.in_ok-records.stores.items c.in_ok-net.ensures.world c.in_ok-net.ensures.resumed
    (count_shown g.V.Value.bytes c.in_ok-net.net.history c.in_ok-net.net.history c.in_ok-net.net.cores c.in_ok-net.net.packets c.in_ok-net.ensures.world refl) c.requires c.in_ok-records.ensures

pub returns-clause-resumed : goal.returns-clause-resumed
returns-clause-resumed g c =
    is_resumed g.V.Value.bytes g.K.Keep.kept g.K.Keep.failures c.in_ok-net.net c.args.weights c.args.event_limit c.args.keeps.items c.in_ok-records.records.items c.in_ok-records.stores.items c.in_ok-net.ensures.world c.in_ok-net.ensures.resumed
    (count_shown g.V.Value.bytes c.in_ok-net.net.history c.in_ok-net.net.history c.in_ok-net.net.cores c.in_ok-net.net.packets c.in_ok-net.ensures.world refl) c.requires c.in_ok-records.ensures
