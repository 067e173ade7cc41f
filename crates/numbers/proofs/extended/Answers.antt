-- `numbers::extended` meets its contract. By the test of the sign.
use Rattle.numbers.proofs.Signs.{extended_low, extended_high}
use Rattle.numbers.proofs.extended.Goals as goal

pub returns-then-n-lt32768 : goal.returns-then-n-lt32768
returns-then-n-lt32768 c = extended_low _ c.if-n-lt32768.true

pub returns-else-n-lt32768 : goal.returns-else-n-lt32768
returns-else-n-lt32768 c = extended_high _ c.if-n-lt32768.false
