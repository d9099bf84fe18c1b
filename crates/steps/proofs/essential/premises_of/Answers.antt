use Rattle.steps.proofs.Words.{◌≡◌, sym, ◌∙◌, ap, length, IfOk-weaker, no_row, taken_for_essentials, get_or}
use Rattle.steps.proofs.PremiseLemmas.{asks-all, essential-by, none-essential, never-nothing, follows-at}
use Rattle.steps.proofs.essential.premises_of.Goals as goal

pub premises_among-requires : goal.premises_among-requires
premises_among-requires c =
    let S = c.args.frames.now.statements in
    let rows = c.args.table.now in
    let m = c.in-Assertion.ensures in
    let cited = c.in_ok-cited-in-Assertion.ensures m.0 m.1.0 in
    ap length c.taken.ensures
    ∙ asks-all S c.args.at c.args.frames.now.names rows (get_or rows c.args.place no_row) (follows-at S c.args.at c.args.frames.now.names rows c.args.place c.requires.rows c.requires.place) c.position-position.result c.position-position.ensures
    m.0 _ _ m.1 cited.numbered_hypotheses

pub unreachable-requires : goal.unreachable-requires
unreachable-requires c =
    let S = c.args.frames.now.statements in
    let rows = c.args.table.now in
    never-nothing S c.args.at c.args.frames.now.names rows (get_or rows c.args.place no_row) (follows-at S c.args.at c.args.frames.now.names rows c.args.place c.requires.rows c.requires.place) c.position-position.result c.position-position.ensures
    (λ s. c.in-Nothing.ensures s)

pub returns-in-Hypothesis : goal.returns-in-Hypothesis
returns-in-Hypothesis c =
    let S = c.args.frames.now.statements in
    let rows = c.args.table.now in
    let h = c.in-Hypothesis.ensures in
    c.new.ensures.items ∙ none-essential S c.args.at c.args.frames.now.names rows (get_or rows c.args.place no_row) (follows-at S c.args.at c.args.frames.now.names rows c.args.place c.requires.rows c.requires.place) c.position-position.result c.position-position.ensures
    h.0 h.1

pub returns-in_ok-cited-in-Assertion : goal.returns-in_ok-cited-in-Assertion
returns-in_ok-cited-in-Assertion c =
    let S = c.args.frames.now.statements in
    let rows = c.args.table.now in
    let m = c.in-Assertion.ensures in
    let cited = c.in_ok-cited-in-Assertion.ensures m.0 m.1.0 in
    let hs = c.in_ok-cited-in-Assertion.cited.hypotheses in
    IfOk-weaker c.premises_among.result (λ list. list.items ≡ taken_for_essentials hs c.taken.result.now) _
    (λ list e. e ∙ (ap (taken_for_essentials hs) c.taken.ensures
    ∙ sym (essential-by S c.args.at c.args.frames.now.names rows (get_or rows c.args.place no_row) (follows-at S c.args.at c.args.frames.now.names rows c.args.place c.requires.rows c.requires.place) c.position-position.result c.position-position.ensures
    m.0 _ hs m.1 cited.numbered_hypotheses)))
    c.premises_among.ensures
