-- `answers::write_plain` meets its contract: a refusal and a bare 00 are one byte, any other answer has its contents. Assumes nothing.
use mathlib.Core.List.{[]}
use Rattle.answers.proofs.Laws.{answer-short, one_byte, bare}
use Rattle.answers.proofs.write_plain.Goals as goal

pub returns-then-out-lt-ANSWER_SIZE : goal.returns-then-out-lt-ANSWER_SIZE
returns-then-out-lt-ANSWER_SIZE c = answer-short c.args.a [] [] c.args.out.now c.if-out-lt-ANSWER_SIZE.true

pub returns-in-Refused : goal.returns-in-Refused
returns-in-Refused c = one_byte c.args.out.now c.in-Refused.is c.write_refusal.ensures

pub returns-in-Done : goal.returns-in-Done
returns-in-Done c = bare c.args.out.now c.in-Done.is c.write_refusal-in-Done.ensures
