use Rattle.std.proofs.Common.{◌≡◌, Ok, Err}
use Rattle.reader.proofs.Whole.{mapped, at_line, told-unread, line-ends, line-says, told-refused, told-done, told-next}
use lib.ListN.{length}
use native.Mathlib.Omega.{arith}
use Prim.Native.Nat.{◌+◌, ◌<◌}
use borrow.Author.Rules.{rules}
use Rattle.reader.proofs.texts.read_lines.Goals as goal

pub returns-in_default : goal.returns-in_default
returns-in_default c =
    told-unread _ _ _ _ _ _ c.fresh-st.ensures _ c.requires.blank _ (rw c.from.ensures at c.text_of-bytes.ensures.result_value) _ _ _ _ c.loop-at.invariant.2.fit c.loop-at.invariant.4 (omega arith)
    _ c.after-rest.ensures.result_value _ c.parse-parsed.ensures _ c.unwrap_err.ensures _ c.refusal.ensures

pub enter-entered-requires-clause-says : goal.enter-entered-requires-clause-says
enter-entered-requires-clause-says c =
    line-says _ _ _ c.after-rest.ensures.result_value _ _ c.parse-parsed.ensures _ c.in-Ok.is _ c.before-line.ensures.result_value
    _ _ _ (rw c.from.ensures at c.text_of-bytes.ensures.result_value) c.requires.text_len_bound c.requires.text_bound

pub returns-in_err-st : goal.returns-in_err-st
returns-in_err-st c =
    let (n, stopped, made) = mapped c.enter-entered.result c.map_err.result _ c.map_err.ensures.cases c.in_err-st.field-0.0 c.in_err-st.was in
    let told : c.in_err-st.field-0.0 ≡ at_line n c.args.text c.loop-at.number = search rules in
    let e : c.from_residual.result ≡ Err c.in_err-st.field-0.0 = search rules in
    rw e (told-refused _ _ _ _ _ _ c.fresh-st.ensures _ c.requires.blank _ (rw c.from.ensures at c.text_of-bytes.ensures.result_value) _ _ _ _ c.loop-at.invariant.2.fit c.loop-at.invariant.4 (omega arith)
    _ c.after-rest.ensures.result_value _ c.parse-parsed.ensures _ c.in-Ok.is _ c.before-line.ensures.result_value _ _ (rw stopped at c.enter-entered.ensures) _ told)

pub overflow_add-at : goal.overflow_add-at
overflow_add-at c =
    let ends : c.loop-at.at + c.in-Ok.field-0.length < length c.text_of-bytes.result.now = line-ends _ _ _ c.after-rest.ensures.result_value _ _ c.parse-parsed.ensures _ c.in-Ok.is in
    omega (arith, ends)

pub overflow_add-at-in-loop-at : goal.overflow_add-at-in-loop-at
overflow_add-at-in-loop-at c =
    let ends : c.loop-at.at + c.in-Ok.field-0.length < length c.text_of-bytes.result.now = line-ends _ _ _ c.after-rest.ensures.result_value _ _ c.parse-parsed.ensures _ c.in-Ok.is in
    omega (arith, ends)

pub loop-at-preserved : goal.loop-at-preserved
loop-at-preserved c =
    let ends : c.loop-at.at + c.in-Ok.field-0.length < length c.text_of-bytes.result.now = line-ends _ _ _ c.after-rest.ensures.result_value _ _ c.parse-parsed.ensures _ c.in-Ok.is in
    let entered : c.enter-entered.result ≡ Ok c.in_ok-st.st = search rules in
    let enters = rw entered at c.enter-entered.ensures in (
      omega arith,
      omega arith,
      enters.sound,
      search rules,
      told-next _ _ _ _ _ _ c.fresh-st.ensures _ c.requires.blank _ (rw c.from.ensures at c.text_of-bytes.ensures.result_value) _ _ _ _ c.loop-at.invariant.2.fit c.loop-at.invariant.4 (omega arith)
          _ c.after-rest.ensures.result_value _ c.parse-parsed.ensures _ c.in-Ok.is _ c.before-line.ensures.result_value _ _ enters,
    )

pub returns : goal.returns
returns c =
    told-done _ _ _ _ _ _ c.fresh-st.ensures _ c.requires.blank _ (rw c.from.ensures at c.text_of-bytes.ensures.result_value) _ _ _ _ c.loop-at.invariant.2.fit c.loop-at.invariant.4 (omega arith)
