-- The page of row starts is as promised.
use Rattle.row_starts.specs.Demands.{PageRule}
use Rattle.row_starts.proofs.Page.{page-rule}

pub page-follows-rule : PageRule
page-follows-rule = page-rule
