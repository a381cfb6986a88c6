mod Served
