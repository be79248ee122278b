use Rattle.xs_values.proofs.Results as results
use Rattle.xs_values.proofs.laws.results_are_numbers.Goals as goal

pub returns-clause-two : goal.returns-clause-two
returns-clause-two c = results.results_are_numbers

pub returns-clause-one : goal.returns-clause-one
returns-clause-one c = results.unary_results_are_numbers
