-- The arguments that are left fall at each call. Assumes nothing.
use Rattle.card.proofs.+blossom.Given as goal

abbrev pub decreases-blossom : goal.decreases-blossom
decreases-blossom l = l.left
