-- Calls that were made, as whoever made them keeps them: what they kept to of an account of calls, and that what whole sweeps owe of what was asked then speaks of what was answered. Assumes nothing.
use Rattle.std.specs.Prelude.{◌≡◌}
use Rattle.std.proofs.Math.Path.{refl, ap}
use Rattle.std.proofs.Common.{◌∙◌}
use mathlib.Core.List.{List, [], ◌∷◌}
use Rattle.calls.specs.State.{Call}
use Rattle.calls.specs.Call.{ReplyOf}
use Rattle.calls.specs.Plain.{SeenOf}
use Rattle.calls.specs.Whole.{seen, sweeps, state_after, Each}

-- The replies to a list of calls, each given the state that the one before returned. `call` is any account of a call.
abbrev pub replies_by : {S : Type 0} → (S → Call → ReplyOf S) → S → List Call → List (ReplyOf S)
replies_by call s [] = []
replies_by call s (c ∷ calls) = call s c ∷ replies_by call (call s c).state calls

-- A is the type of calls that were made: of each it is known what was asked, and the reply, with the list that it left.
module _ {S A : Type 0} (asked : A → Call) (reply : A → ReplyOf S) where
  -- ---- definitions

  -- what was asked
  abbrev pub asked_in : List A → List Call
  asked_in [] = []
  asked_in (m ∷ made) = asked m ∷ asked_in made

  -- what was answered
  abbrev pub replies_in : List A → List (ReplyOf S)
  replies_in [] = []
  replies_in (m ∷ made) = reply m ∷ replies_in made

  -- what is seen of them, which is compared with the plain sweep
  abbrev pub seen_in : List A → List (SeenOf S)
  seen_in [] = []
  seen_in (m ∷ made) = seen (asked m) (reply m) ∷ seen_in made

  -- the state that the last of them handed back
  abbrev pub last_in : S → List A → S
  last_in s [] = s
  last_in s (m ∷ made) = last_in (reply m).state made

  -- P of each of them, with the state that it was given and its reply
  abbrev pub EachIn : (S → Call → ReplyOf S → Type 0) → S → List A → Type 0
  EachIn P s [] = Unit {0}
  EachIn P s (m ∷ made) = P s (asked m) (reply m) × EachIn P (reply m).state made

  module _ (call : S → Call → ReplyOf S) where
    -- each call kept to the account, at the state that the one before handed back; nothing is asked of states and calls that do not occur
    abbrev pub Kept : S → List A → Type 0
    Kept s [] = Unit {0}
    Kept s (m ∷ made) = (reply m ≡ call s (asked m)) × Kept (reply m).state made

    -- ---- laws

    -- Where they did, the replies, what is seen and the last state are the account's, of what was asked.
    pub kept_replies : (s : S) (made : List A) → Kept s made → replies_in made ≡ replies_by call s (asked_in made)
    kept_replies s [] k = refl
    kept_replies s (m ∷ made) k = rw (← k.0, kept_replies (reply m).state made k.1)

    pub kept_seen : (s : S) (made : List A) → Kept s made → seen_in made ≡ sweeps call s (asked_in made)
    unfolding sweeps
    kept_seen s [] k = refl
    kept_seen s (m ∷ made) k = rw (← k.0, kept_seen (reply m).state made k.1)

    pub kept_last : (s : S) (made : List A) → Kept s made → last_in s made ≡ state_after call s (asked_in made)
    unfolding state_after
    kept_last s [] k = refl
    kept_last s (m ∷ made) k = kept_last (reply m).state made k.1 ∙ ap (λ (r : ReplyOf S). state_after call r.state (asked_in made)) k.0

    -- What holds of each call of the account that was asked holds of each call that was made.
    pub kept_each : (P : S → Call → ReplyOf S → Type 0) (s : S) (made : List A) → Kept s made → Each P call s (asked_in made) → EachIn P s made
    kept_each P s [] k h = tt
    kept_each P s (m ∷ made) k h =
        (rw k.0 h.0, kept_each P (reply m).state made k.1 (rw k.0 h.1))
