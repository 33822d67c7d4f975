-- The query of a trial.
use Rattle.std.specs.Prelude.{ℕ, List, ◌++◌, codes}

-- Packets of each source, packets that each switch dropped, bytes out of sequence in each flow, and the longest queue of each switch.
unfoldable pub trial_query : List ℕ
trial_query =
    codes "def count([c], []) { c = c + 1; }\n"
    ++ codes "def lost([d], [tout]) { if (tout == infinity) { d = d + 1; } }\n"
    ++ codes "def oos([last, n], [tcpseq, payload_len]) { if (last != tcpseq) { n = n + 1; } last = tcpseq + payload_len; }\n"
    ++ codes "def deepest([m], [qsize]) { m = max(m, qsize); }\n"
    ++ codes "a = groupby(pktstream, [srcip], count);\n"
    ++ codes "b = groupby(pktstream, [switch], lost);\n"
    ++ codes "e = groupby(pktstream, [5tuple], oos);\n"
    ++ codes "g = groupby(pktstream, [switch], deepest);\n"
    ++ codes "final big = top(a, c, 3);\n"
    ++ codes "final odd = top(e, n, 3);\n"
    ++ codes "final deep = top(g, m, 3);\n"
    ++ codes "print big;\n"
    ++ codes "print b;\n"
    ++ codes "print odd;\n"
    ++ codes "print deep;\n"
