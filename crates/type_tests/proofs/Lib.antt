mod Rolls
