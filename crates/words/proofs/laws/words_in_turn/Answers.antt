use Rattle.words.proofs.Asking.{input, trace, tower, any_trace, any_tower, list, code, version, version_option, version_letter, manual, bash, zsh, fish}
use Rattle.words.proofs.laws.words_in_turn.Goals as goal

pub returns-clause-input : goal.returns-clause-input
returns-clause-input c = input

pub returns-clause-trace : goal.returns-clause-trace
returns-clause-trace c = trace

pub returns-clause-tower : goal.returns-clause-tower
returns-clause-tower c = tower

pub returns-clause-any_trace : goal.returns-clause-any_trace
returns-clause-any_trace c = any_trace

pub returns-clause-any_tower : goal.returns-clause-any_tower
returns-clause-any_tower c = any_tower

pub returns-clause-list : goal.returns-clause-list
returns-clause-list c = list

pub returns-clause-code : goal.returns-clause-code
returns-clause-code c = code

pub returns-clause-version : goal.returns-clause-version
returns-clause-version c = version

pub returns-clause-version_option : goal.returns-clause-version_option
returns-clause-version_option c = version_option

pub returns-clause-version_letter : goal.returns-clause-version_letter
returns-clause-version_letter c = version_letter

pub returns-clause-manual : goal.returns-clause-manual
returns-clause-manual c = manual

pub returns-clause-bash : goal.returns-clause-bash
returns-clause-bash c = bash

pub returns-clause-zsh : goal.returns-clause-zsh
returns-clause-zsh c = zsh

pub returns-clause-fish : goal.returns-clause-fish
returns-clause-fish c = fish
