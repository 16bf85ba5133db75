-- What falls at each call of `text::decimals::put_natural`. Assumes nothing.
use Rattle.text.proofs.decimals.+put_natural.Given as goal

abbrev pub decreases-put_natural : goal.decreases-put_natural
decreases-put_natural l = l.n
