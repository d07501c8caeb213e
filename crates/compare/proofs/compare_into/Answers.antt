-- `compare::compare_into` meets its contract.
use Rattle.scan.proofs.Basics.{rules, ◌≡◌, sym, ◌∙◌}
use Rattle.lending.proofs.Named.{told_on}
use Rattle.compare.specs.Compare.{refused_by}
use Rattle.compare.proofs.Mapped.{mapped_err, mapped_ok}
use Rattle.compare.proofs.Paths.{first-refused, second-refused, forms-refused, forms-lie, compared}
use Rattle.compare.proofs.compare_into.Goals as goal

pub returns-in_err-map_err : goal.returns-in_err-map_err
returns-in_err-map_err c =
    let (r, e, h) = mapped_err _ _ _ _ c.map_err.ensures.cases c.in_err-map_err.was in
    let f : c.from_residual.result ≡ refused_by r 0 = told_on _ c.from_residual.ensures.1 ∙ search rules in
    rw f (first-refused _ _ _ (sym c.verdict.ensures ∙ e))

pub returns-in_err-map_err-2 : goal.returns-in_err-map_err-2
returns-in_err-map_err-2 c =
    let a = sym c.verdict.ensures ∙ mapped_ok _ _ _ _ c.map_err.ensures.cases c.in_ok-map_err.was in
    let (r, e, h) = mapped_err _ _ _ _ c.map_err-2.ensures.cases c.in_err-map_err-2.was in
    let f : c.from_residual-in_err-map_err-2.result ≡ refused_by r 1 = told_on _ c.from_residual-in_err-map_err-2.ensures.1 ∙ search rules in
    rw f (second-refused _ _ _ a (sym c.verdict-2.ensures ∙ e))

pub same_fronts-same-requires : goal.same_fronts-same-requires
same_fronts-same-requires c =
    let a = sym c.verdict.ensures ∙ mapped_ok _ _ _ _ c.map_err.ensures.cases c.in_ok-map_err.was in
    let b = sym c.verdict-2.ensures ∙ mapped_ok _ _ _ _ c.map_err-2.ensures.cases c.in_ok-map_err-2.was in
    let d = mapped_ok _ c.forms_of.result _ _ c.map_err-3.ensures.cases c.in_ok-lengths.was in
    forms-lie _ _ _ a b _ _ _ _ (rw d at c.forms_of.ensures)

pub returns-in_err-lengths : goal.returns-in_err-lengths
returns-in_err-lengths c =
    let a = sym c.verdict.ensures ∙ mapped_ok _ _ _ _ c.map_err.ensures.cases c.in_ok-map_err.was in
    let b = sym c.verdict-2.ensures ∙ mapped_ok _ _ _ _ c.map_err-2.ensures.cases c.in_ok-map_err-2.was in
    let (r, e, h) = mapped_err _ c.forms_of.result _ _ c.map_err-3.ensures.cases c.in_err-lengths.was in
    let f : c.from_residual-in_err-lengths.result ≡ refused_by r 1 = told_on _ c.from_residual-in_err-lengths.ensures.1 ∙ search rules in
    rw f (forms-refused _ _ _ a b _ _ _ _ (rw e at c.forms_of.ensures))

pub returns : goal.returns
returns c =
    let a = sym c.verdict.ensures ∙ mapped_ok _ _ _ _ c.map_err.ensures.cases c.in_ok-map_err.was in
    let b = sym c.verdict-2.ensures ∙ mapped_ok _ _ _ _ c.map_err-2.ensures.cases c.in_ok-map_err-2.was in
    let d = mapped_ok _ c.forms_of.result _ _ c.map_err-3.ensures.cases c.in_ok-lengths.was in
    compared _ _ _ a b _ _ _ _ (rw d at c.forms_of.ensures) c.same_fronts-same.ensures
