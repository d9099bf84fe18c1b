use Rattle.sites.proofs.Words.{◌∙◌, ap, map, subst, OnOk, WritesFiles, file_of, index_files}
use Rattle.markup.specs.IndexItems.{item_view}
use Rattle.sites.proofs.site.write_index_pages.Goals as goal

pub returns : goal.returns
returns g c =
    let site = c.args.site.now in
    let S = site.library.now.replica.statements in
    let marks = site.is_unproved.now in
    subst (λ files. OnOk c.write_files.result (WritesFiles g.S.Folder.writes c.args.folder.now files c.write_files.new.folder))
    (ap (map file_of) c.as_slice-2.ensures.value
    ∙ (c.in_ok-pages.ensures
    ∙ (ap (λ T. index_files T marks (map item_view c.as_slice.result.now)) c.statements.ensures.statements
    ∙ (ap (λ l. index_files S marks (map item_view l)) c.as_slice.ensures.value ∙ ap (index_files S marks) c.in_ok-items.ensures))))
    c.write_files.ensures
