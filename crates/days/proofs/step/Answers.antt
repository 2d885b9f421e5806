-- `step` meets its promise: the call that stands at the place is made, and its line is written.
use Prim.Native.Nat.{◌<◌}
use mathlib.Core.Path.{refl}
use mathlib.Core.Logic.{inl}
use Rattle.std.proofs.lemmas.Result.{err_from_is_err_and}
use native.Mathlib.Omega.{arith}
use Rattle.days.specs.Calls.{call_of}
use Rattle.days.proofs.Calling.{call_small}
use Rattle.days.proofs.Same.{short_of}
use Rattle.days.proofs.step.Goals as goal

pub returns-in_err-length-clause-steps : goal.returns-in_err-length-clause-steps
returns-in_err-length-clause-steps c =
    let refused = err_from_is_err_and c.from_residual.result c.from_residual.ensures.1 in
    rw (refused.1, refused.2)
    (inl (record { call = call_of c.in-Some.call; at = c.in-Some.ensures; outcome = c.make-made.result; does = c.make-made.ensures; told = rw (← c.kind.ensures, ← c.slot.ensures, ← c.into.ensures) c.in_err-length.ensures }))

pub returns-in_err-length-clause-short : goal.returns-in_err-length-clause-short
returns-in_err-length-clause-short c =
    short_of _ c.make-made.result c.in-Some.ensures c.make-made.ensures (record { number = omega (arith, call_small _ c.args.k (call_of c.in-Some.call) (λ o. (c.type_inv.file o).fits) c.in-Some.ensures); slot = rw (← c.slot.ensures) (omega arith); answer = let n : c.into.result.number < 256 = omega arith in rw c.into.ensures at n; moves = omega arith; started = omega arith; stopped = omega arith }) (omega arith)

pub returns-clause-steps : goal.returns-clause-steps
returns-clause-steps c =
    inl (record { call = call_of c.in-Some.call; at = c.in-Some.ensures; outcome = c.make-made.result; does = c.make-made.ensures; told = rw (← c.kind.ensures, ← c.slot.ensures, ← c.into.ensures) (c.in_ok-length.ensures, refl) })

pub returns-clause-short : goal.returns-clause-short
returns-clause-short c =
    short_of _ c.make-made.result c.in-Some.ensures c.make-made.ensures (record { number = omega (arith, call_small _ c.args.k (call_of c.in-Some.call) (λ o. (c.type_inv.file o).fits) c.in-Some.ensures); slot = rw (← c.slot.ensures) (omega arith); answer = let n : c.into.result.number < 256 = omega arith in rw c.into.ensures at n; moves = omega arith; started = omega arith; stopped = omega arith }) (omega arith)
