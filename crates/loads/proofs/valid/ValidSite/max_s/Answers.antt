use Rattle.std.proofs.Common.{rules, sym, pos, ◌+ℤ◌, to_z-of_z, w64, FitsSigned}
use Rattle.loads.specs.SiteTerms.{terms_of}
use Rattle.loads.proofs.MaxSLaws.{by_sum}
use Rattle.loads.proofs.SiteTermLaws.{signed_max_s_plain}
use Rattle.loads.proofs.valid.ValidSite.max_s.Goals as goal

pub returns : goal.returns
returns c =
    let s = c.args.self.site in
    let list = c.args.self.list.bytes.now in
    let net = c.leaching.result in
    let fits : FitsSigned w64 net = search rules in
    by_sum (terms_of list s) (pos c.bases-bases.result.supply +ℤ net)
    (rw (c.leaching.ensures.value, c.from.ensures, c.from-2.ensures, c.from-3.ensures, c.from-4.ensures, c.counted_dioxide.ensures, c.bases-bases.ensures.1, c.bases-bases.ensures.0) (sym (signed_max_s_plain list s))) _
    (rw (to_z-of_z fits) at c.load_of.ensures)
