use Rattle.std.proofs.Common.{◌≡◌, Ok, refl, rules}
use Rattle.frames.specs.declared.frame.Frame.{Frame}
use Rattle.frames.specs.Frames.{frame, said}
use Rattle.frames.proofs.Bounds.{sound}
use Rattle.frames.proofs.Sayings.{all_sayable}
use Rattle.frames.proofs.frame.Frame.read.Goals as goal

pub returns-then-bytes-lt2 : goal.returns-then-bytes-lt2
returns-then-bytes-lt2 c = record { says = search rules; sound = refl; sayable = all_sayable }

pub returns-in_err-side : goal.returns-in_err-side
returns-in_err-side c =
    let says : said c.from_residual.result ≡ frame c.args.bytes.now = search rules in
    record { says = says; sound = sound c.args.bytes.now c.from_residual.result c.type_inv.bytes says; sayable = all_sayable }

pub returns-in_err-operation : goal.returns-in_err-operation
returns-in_err-operation c =
    let says : said c.from_residual-in_err-operation.result ≡ frame c.args.bytes.now = search rules in
    record { says = says; sound = sound c.args.bytes.now c.from_residual-in_err-operation.result c.type_inv.bytes says; sayable = all_sayable }

pub returns : goal.returns
returns c =
    let read : Frame = record { side = c.in_ok-side.side; operation = c.in_ok-operation.operation } in
    let says : said (Ok read) ≡ frame c.args.bytes.now = search rules in
    record { says = says; sound = sound c.args.bytes.now (Ok read) c.type_inv.bytes says; sayable = all_sayable }
