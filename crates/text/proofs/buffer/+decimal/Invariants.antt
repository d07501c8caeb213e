-- `text::buffer::decimal` meets its contract: it calls itself with n / 100, which is less than n.
use Rattle.text.proofs.buffer.+decimal.Given as goal

-- the number
abbrev pub decreases-decimal : goal.decreases-decimal
decreases-decimal l = l.n
