-- The digits of x are those of x / 10, which the function writes by calling itself, and x % 10 behind them; below 10 there is one digit.
-- The measure: the digits still allowed, one less in each call.
use Rattle.text.proofs.+put_digits.Given as goal

abbrev pub decreases-put_digits : goal.decreases-put_digits
decreases-put_digits l = l.most
