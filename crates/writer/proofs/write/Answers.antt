use Rattle.writer.proofs.Replies.{write_refused, write_kept, write_valid, write_named, write_short, write_printed, write_text}
use mathlib.Core.List.{[]}
use borrow.Author.Rules.{rules}
use Rattle.writer.proofs.write.Goals as goal

pub returns-in_err-check : goal.returns-in_err-check
returns-in_err-check c = record { value = search (write_refused, rules); out_after = search (write_kept, rules) }

pub print-requires : goal.print-requires
print-requires c = let done = c.in_ok-check.was in record {
  valid = write_valid _ _ _ _ c.check.ensures [] _ done;
  named = write_named _ _ _ _ c.check.ensures [] _ done;
  name_len_bound = write_short _ _ _ _ c.check.ensures [] _ done;
}

pub returns : goal.returns
returns c = record { value = search (write_printed, rules); out_after = search (write_text, rules) }
