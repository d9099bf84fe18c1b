use Rattle.frame.proofs.Words.{◌∙◌, ap, sym, take, HasMoreAtEnd, on-err}
use Rattle.frame.proofs.CutStorage.{back-stored}
use Rattle.frame.proofs.extend.extend_whole.Goals as goal

pub returns-then-is_err-clause-stored : goal.returns-then-is_err-clause-stored
returns-then-is_err-clause-stored c =
    let old = c.args.storage.now in
    let mid = c.extend-result.new.storage in
    let after = on-err c.extend-result.result (HasMoreAtEnd old mid) (sym c.is_err.ensures.value ∙ c.if-is_err.true) c.extend-result.ensures.after in
    let cut = c.roll_back.ensures in
    back-stored old mid c.roll_back.new.storage c.requires.stored (record {
      after = after;
      numbering_cut = cut.names ∙ ap (λ n. take n mid.numbering) c.len-names.ensures;
      positions_cut = cut.positions;
      ends_cut = cut.ends;
      entries_cut = cut.entries;
      floats_cut = cut.floats;
      disjoints_cut = cut.disjoints;
      variables_cut = cut.variables;
      last_active_cut = cut.last_active;
    })
