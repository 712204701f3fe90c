-- `words::set_words` meets its contract: each arm is a case of `set_size`. Assumes nothing.
use borrow.Author.Tests.{ne_eqb}
use Rattle.words.specs.Words.{set_size}
use Rattle.words.proofs.set_words.Goals as goal

pub returns-in-67 : goal.returns-in-67
unfolding set_size
returns-in-67 c = rw c.in-67.is

pub returns-in-68 : goal.returns-in-68
unfolding set_size
returns-in-68 c = rw c.in-68.is

pub returns-in-69 : goal.returns-in-69
unfolding set_size
returns-in-69 c = rw c.in-69.is

pub returns-in-70 : goal.returns-in-70
unfolding set_size
returns-in-70 c = rw c.in-70.is

pub returns-in-71 : goal.returns-in-71
unfolding set_size
returns-in-71 c = rw c.in-71.is

pub returns-in-72 : goal.returns-in-72
unfolding set_size
returns-in-72 c = rw c.in-72.is

pub returns-in_default : goal.returns-in_default
unfolding set_size
returns-in_default c = simp (ne_eqb _ _ c.in_default.in_default-own.rest.0.0.0.0.0.1, ne_eqb _ _ c.in_default.in_default-own.rest.0.0.0.0.1, ne_eqb _ _ c.in_default.in_default-own.rest.0.0.0.1, ne_eqb _ _ c.in_default.in_default-own.rest.0.0.1, ne_eqb _ _ c.in_default.in_default-own.rest.0.1, ne_eqb _ _ c.in_default.in_default-own.rest.1)
