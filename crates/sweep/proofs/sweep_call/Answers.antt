-- Refused, or the steps on the free tail that is lent on.
use Rattle.std.specs.Prelude.{Result, Ok, Err, is_ok, MatchResult, IsErrAnd}
use Rattle.std.proofs.Common.{◌≡◌, List, ℕ, ◌<◌, length, refl, sym, ap, ◌∙◌, true≢false, arith, rules}
use Rattle.marks.specs.declared.Refusal.{Refusal}
use Rattle.marks.specs.Answers.{number, none, judged, number_of, refusal_of}
use Rattle.calls.specs.State.{terms_of}
use Rattle.calls.specs.Call.{conditions}
use Rattle.calls.proofs.RefusalLaws.{call_refused}
use Rattle.calls.proofs.TailLaws.{moved, tail_free, tail_moved}
use Rattle.sweep.specs.declared.SweepState.{SweepState}
use Rattle.sweep.specs.declared.Swept.{Swept}
use Rattle.sweep.specs.declared.SweepRefusal.{SweepRefusal}
use Rattle.sweep.specs.Engine.{engine}
use Rattle.sweep.specs.Answers.{view_of, call_of, reply_of}
use Rattle.sweep.proofs.EngineLaws.{lawful}
use Rattle.sweep.proofs.sweep_call.Goals as goal

-- The state put beside a judgement's refusal changes nothing of what it says.
passes : {u : Unit} (v : Result Unit Refusal) (m : Result Unit SweepRefusal) → is_ok m ≡ is_ok v → m ≡ Ok u → refusal_of v ≡ none
passes (Ok x) m same e = refl
passes (Err r) m same e = absurd (true≢false (sym (ap is_ok e) ∙ same))

beside : {Gives : Refusal → SweepRefusal → Type 0} (s : SweepState) (v : Result Unit Refusal) (m : Result Unit SweepRefusal) (k : SweepRefusal)
    → MatchResult v (λ x. m ≡ Ok x) (λ e. IsErrAnd m (Gives e)) → ((r : Refusal) (y : SweepRefusal) → Gives r y → y ≡ record { state = s; refusal = r }) → m ≡ Err k
    → (k.state ≡ s) × (refusal_of v ≡ number (number_of k.refusal))
beside s (Ok x) m k t told e = absurd (true≢false (sym (ap is_ok t) ∙ ap is_ok e))
beside s (Err r) (Ok x) k t told e = elim t [ ]
beside s (Err r) (Err x) k t told e =
    let same : x ≡ k = cc in
    let is : k ≡ record { state = s; refusal = r } = sym same ∙ told r x t in
    (ap (λ (k : SweepRefusal). k.state) is, ap (λ (k : SweepRefusal). number (number_of k.refusal)) (sym is))

-- Where nothing refuses the call, a place is free.
place_free : (s : SweepState) (cap : ℕ) (list : List ℕ) (free : ℕ) → judged (conditions engine (view_of s) (terms_of (call_of cap list free))) ≡ none → free < length list
place_free s cap list free q = omega (arith, tail_free lawful (view_of s) (call_of cap list free) q)

-- A refusal that is handed on says what it says.
declined : (k : SweepRefusal) (r : Result Swept SweepRefusal) (list : List ℕ) → IsErrAnd r (λ e. e ≡ k) → reply_of r list ≡ reply_of (Err k) list
declined k (Ok x) list is = absurd is
declined k (Err e) list is = ap (λ (e : SweepRefusal). reply_of (Err e) list) is

pub returns-in_err-map_err : goal.returns-in_err-map_err
returns-in_err-map_err c =
    let a = c.args in
    let k = c.in_err-map_err.field-0.0 in
    let b = beside a.state c.refusal_of.result c.map_err.result k c.map_err.ensures.cases (λ r y h. search rules) c.in_err-map_err.was in
    declined k c.from_residual.result a.list.now c.from_residual.ensures.1
    ∙ ap (λ (s : SweepState). reply_of (Err (record { state = s; refusal = k.refusal })) a.list.now) b.0
    ∙ call_refused engine (view_of a.state) (call_of a.cap a.list.now a.free) (number_of k.refusal) (c.refusal_of.ensures.is ∙ b.1)

pub offset_bounds-list-free : goal.offset_bounds-list-free
offset_bounds-list-free c =
    let a = c.args in
    let free = place_free a.state a.cap a.list.now a.free (c.refusal_of.ensures.is ∙ passes c.refusal_of.result c.map_err.result c.map_err.ensures.variant c.in_ok-map_err.was) in
    search rules

pub slice_bounds-sweep_on-count : goal.slice_bounds-sweep_on-count
slice_bounds-sweep_on-count c =
    let a = c.args in
    omega (arith, place_free a.state a.cap a.list.now a.free (c.refusal_of.ensures.is ∙ passes c.refusal_of.result c.map_err.result c.map_err.ensures.variant c.in_ok-map_err.was))

pub slice_bounds-sweep_on-start : goal.slice_bounds-sweep_on-start
slice_bounds-sweep_on-start c =
    let a = c.args in
    let free = place_free a.state a.cap a.list.now a.free (c.refusal_of.ensures.is ∙ passes c.refusal_of.result c.map_err.result c.map_err.ensures.variant c.in_ok-map_err.was) in
    search rules

pub returns : goal.returns
returns c =
    let a = c.args in
    ap (moved a.list.now a.free) c.sweep_on-swept.ensures.0
    ∙ tail_moved lawful (view_of a.state) (call_of a.cap a.list.now a.free) (c.refusal_of.ensures.is ∙ passes c.refusal_of.result c.map_err.result c.map_err.ensures.variant c.in_ok-map_err.was)
