use Rattle.sites.proofs.Words.{codes, subst}
use Rattle.sites.proofs.SiteLemmas.{site-written}
use Rattle.sites.proofs.site.write_site.Goals as goal

pub returns : goal.returns
returns g c =
    let opened = c.open_folder.new.folder in
    let styled = c.write_file.new.folder in
    let site = c.args.site.now in
    site-written g.S.Folder.writes opened styled c.write_pages.new.folder c.write_index_pages.new.folder site.library.now.replica.statements site.is_unproved.now site.text.now c.write_index_pages.result
    (subst (λ bytes. g.S.Folder.writes opened (codes "style.css") bytes styled) c.style_sheet.ensures
    (subst (λ name. g.S.Folder.writes opened name c.style_sheet.result.now styled) c.as_bytes.ensures.value c.in_ok-write_file.ensures))
    c.in_ok-write_pages.ensures c.write_index_pages.ensures
