-- Two members one behind the other.
use Rattle.std.specs.Prelude.{◌+◌, ◌-◌, cond, nat_lt}
use Rattle.station.specs.declared.joined.Joined.{Joined}
use Rattle.station.specs.Meaning.{Meaning}

-- places count on from the first member to the second, which hears what the first sends before the tick
abbrev pub pair : {A B : Type 0} → Meaning A → Meaning B → Meaning (Joined A B)
pair a b = record {
  size = λ s. a.size s.first + b.size s.second;
  fact = λ s k. cond (nat_lt k (a.size s.first)) (a.fact s.first k) (b.fact s.second (k - a.size s.first));
  stop_wire = λ s k. cond (nat_lt k (a.size s.first)) (a.stop_wire s.first k) (b.stop_wire s.second (k - a.size s.first));
  sends = λ s. b.sends s.second;
  ticked = λ s told. record { first = a.ticked s.first told; second = b.ticked s.second (a.sends s.first) };
  called = λ s p c. cond (nat_lt p (a.size s.first))
      (record s { first = a.called s.first p c })
      (record s { second = b.called s.second (p - a.size s.first) c });
  answer = λ s p c. cond (nat_lt p (a.size s.first)) (a.answer s.first p c) (b.answer s.second (p - a.size s.first) c);
  guards = λ s p c. cond (nat_lt p (a.size s.first)) (a.guards s.first p c) (b.guards s.second (p - a.size s.first) c);
}
