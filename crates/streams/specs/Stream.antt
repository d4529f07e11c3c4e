-- What went through a stream, read from it or written to it. The kit says nothing of what `read` gives and what `write` does; so
-- a stream carries a count that only `streams` moves, and `Through` is shut: a program can say that bytes went through a stream
-- only where it handed these bytes to `write`, or got them from `read`, in this order. Assumes nothing.
use Rattle.std.specs.Prelude.{◌≡◌, false, List, [], ◌++◌, ℕ, ◌+◌, ℤ, pos, length}
use Rattle.std.proofs.Common.{arith, length-append}
use Rattle.std.specs.Int.Signed.{lt_z}
use Rattle.capped.specs.Capped.{capped}
use Rattle.streams.specs.declared.Stream.{Stream}

-- a stream that was just opened, with a descriptor or, below 0, with none
unfoldable pub opened : ℤ → Stream
opened fd = record { fd = fd; count = 0; failed = lt_z fd (pos 0) }

-- these bytes went through the stream s, and it is s' now
pub Through : Stream → List ℕ → Stream → Type 0
Through s bytes s' = capped s'.count ≡ capped (s.count + length bytes)

-- what `read` and `write` show of themselves: for the proofs of these two alone
pub counted : (s : Stream) (bytes : List ℕ) (s' : Stream) → s'.count ≡ capped (s.count + length bytes) → Through s bytes s'
unfolding Through
counted s bytes s' e = omega (arith, e)

-- nothing went through; and more, one after the other
pub through-none : (s : Stream) → Through s [] s
unfolding Through
through-none s = omega arith

pub through-more : (s : Stream) (a : List ℕ) (m : Stream) (b : List ℕ) (s' : Stream) → Through s a m → Through m b s'
    → Through s (a ++ b) s'
unfolding Through
through-more s a m b s' p q = omega (arith, p, q, length-append a b)

-- bytes were written: where no write failed, they went through; a stream that failed stays so
pub record Wrote (s : Stream) (bytes : List ℕ) (s' : Stream) : Type 0 where
  pub went : s'.failed ≡ false → Through s bytes s'
  pub sound : s'.failed ≡ false → s.failed ≡ false

pub wrote_none : (s : Stream) → Wrote s [] s
wrote_none s = record { went = λ e. through-none s; sound = λ e. e }

pub wrote-more : (s : Stream) (a : List ℕ) (m : Stream) (b : List ℕ) (s' : Stream) → Wrote s a m → Wrote m b s' → Wrote s (a ++ b) s'
wrote-more s a m b s' p q = record {
  went = λ e. through-more s a m b s' (p.went (q.sound e)) (q.went e);
  sound = λ e. p.sound (q.sound e);
}
